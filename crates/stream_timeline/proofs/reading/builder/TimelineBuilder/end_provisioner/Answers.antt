use Rattle.std.proofs.Common.{refl, sym, ◌∙◌}
use Rattle.std.proofs.lemmas.Int.{to_z-of_z}
use Rattle.stream_timeline.proofs.Holding.{provisioner_ended_preserved}
use Rattle.stream_timeline.proofs.reading.builder.TimelineBuilder.end_provisioner.Goals as goal

pub returns-then-has_open_provisioner : goal.returns-then-has_open_provisioner
returns-then-has_open_provisioner c = λ timeline takes.
    let fits = c.ranges.time in
    provisioner_ended_preserved c.args.self.now _ timeline c.args.address.now c.args.failed c.args.time c.in-Some.place takes (sym (c.in-Some.ensures timeline takes)) (sym c.has_open_provisioner.ensures ∙ c.if-has_open_provisioner.true) (simp to_z-of_z at c.end_provisioner.ensures) refl
