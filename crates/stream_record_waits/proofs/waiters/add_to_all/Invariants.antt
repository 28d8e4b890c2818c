use Rattle.std.proofs.Common.{take}
use Rattle.stream_record_waits.specs.Steps.{lists_in}
use Rattle.stream_record_waits.specs.Waiters.{Joins}
use Rattle.stream_record_waits.proofs.waiters.add_to_all.Given as goal

abbrev pub invariant-loop-wait : goal.invariant-loop-wait
invariant-loop-wait l = Joins l.step (take l.wait-index l.waits) (lists_in l.initial.waiters.items) (lists_in l.waiters.items)
