use Rattle.stream_timeline.proofs.numbers.running.Sweep.take.Goals as goal

pub stretch-requires : goal.stretch-requires
stretch-requires c = c.requires.ready c.in-Some.at c.in-Some.is c.if-at-edge.true
