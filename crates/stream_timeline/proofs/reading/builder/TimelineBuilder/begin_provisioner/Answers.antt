use Rattle.std.proofs.Common.{refl, sym}
use Rattle.std.proofs.lemmas.Int.{to_z-of_z}
use Rattle.stream_timeline.proofs.Holding.{below_full, provisioner_begun_preserved}
use Rattle.stream_timeline.proofs.reading.builder.TimelineBuilder.begin_provisioner.Goals as goal

pub returns : goal.returns
returns c = λ timeline takes.
    let fits = c.ranges.time in
    provisioner_begun_preserved c.args.self.now _ timeline c.args.address.now c.args.name.now c.args.time c.in-Some.place takes (sym (c.in-Some.ensures timeline takes)) (below_full c.args.self.now.timeline.begun c.is_full.result c.is_full.ensures c.if-is_full.false) (simp to_z-of_z at c.in_ok-begin_provisioner.ensures) refl
