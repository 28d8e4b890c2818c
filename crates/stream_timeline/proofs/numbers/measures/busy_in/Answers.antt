use Rattle.std.proofs.Common.{None, arith}
use Rattle.stream_timeline.specs.Numbers.{stretch_length}
use Rattle.stream_timeline.proofs.Adding.{one_more_le}
use Rattle.stream_timeline.proofs.numbers.measures.busy_in.Goals as goal

pub overflow_add-busy : goal.overflow_add-busy
overflow_add-busy c =
    let fits = one_more_le stretch_length c.args.stretches.now c.loop-stretch.stretch-index (record { begin = 0; end = 0; number = 0; alone = None }) c.loop-stretch.busy c.loop-stretch-test.true c.loop-stretch.invariant.bound in
    omega (arith, fits, c.length-busy.ensures, c.requires)
