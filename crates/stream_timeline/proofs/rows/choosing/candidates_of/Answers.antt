use Rattle.std.proofs.Common.{◌++◌, List, ap, sym, ◌∙◌}
use Rattle.std.proofs.lemmas.List.{append-nil, at_drop_all}
use Rattle.stream_timeline.specs.declared.rows.choosing.Candidate.{Candidate}
use Rattle.stream_timeline.specs.Rows.{candidates_from}
use Rattle.stream_timeline.proofs.rows.choosing.candidates_of.Goals as goal

pub returns : goal.returns
returns c =
    let m = c.args.time_range in
    let steps = c.args.steps.now in
    sym (append-nil c.loop-place.candidates.items)
    ∙ (ap (λ (cs : List Candidate). c.loop-place.candidates.items ++ cs) (sym (at_drop_all (candidates_from m c.loop-place.place) steps c.loop-place.place c.loop-place-test.false)) ∙ c.loop-place.invariant)
