use Rattle.std.proofs.Common.{ℕ, [], ◌∷◌, ◌++◌, ap, cond, length, ◌∙◌}
use Rattle.std.specs.Str.{bytes_eq}
use Rattle.std.proofs.lemmas.Int.{to_z-of_z}
use Rattle.stream_timeline.specs.OpenPlaces.{places_at}
use Rattle.stream_timeline.proofs.Holding.{begun_preserved, below_full}
use Rattle.stream_timeline.proofs.reading.builder.TimelineBuilder.begin.Goals as goal

pub returns : goal.returns
returns c = λ timeline takes.
    let old = c.args.self.now in
    let a = c.args.address.now in
    let fits = c.ranges.time in
    begun_preserved old _ timeline a c.args.action.now c.args.time takes (below_full old.timeline.begun c.is_full.result c.is_full.ensures c.if-is_full.false) (simp to_z-of_z at c.in_ok-begin.ensures)
    (λ b. c.in_ok-add.ensures.places b ∙ ap (λ (n : ℕ). cond (bytes_eq a b) (places_at old.opened b ++ n ∷ []) (places_at old.opened b)) (ap length c.steps-place.ensures))
    c.in_ok-add.ensures.filled c.in_ok-add.ensures.bytes
