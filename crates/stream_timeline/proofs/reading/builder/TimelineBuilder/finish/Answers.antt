use Rattle.std.proofs.Common.{sym}
use Rattle.std.proofs.lemmas.Int.{to_z-of_z}
use Rattle.stream_timeline.proofs.Holding.{end_preserved}
use Rattle.stream_timeline.proofs.reading.builder.TimelineBuilder.finish.Goals as goal

pub returns-in-Some : goal.returns-in-Some
returns-in-Some c = λ timeline takes.
    let fits = c.ranges.time in
    end_preserved c.args.self.now _ timeline c.args.address.now c.args.action.now c.args.failed c.args.time c.in-Some.place takes (sym (c.in-Some.ensures timeline takes)) (simp to_z-of_z at c.end.ensures) c.take.ensures.places c.take.ensures.filled c.take.ensures.bytes
