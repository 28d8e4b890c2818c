use Rattle.std.proofs.Common.{◌-◌, length}
use Rattle.apply_planning.specs.NumberOf.{number_of}
use Rattle.apply_planning.proofs.Scheduling.{IsUnderWay}
use Rattle.apply_planning.proofs.begins.begins.Given as goal

abbrev pub decreases-loop-queue : goal.decreases-loop-queue
decreases-loop-queue l = length l.told - length l.all.items

abbrev pub invariant-loop-queue : goal.invariant-loop-queue
invariant-loop-queue l = IsUnderWay l.told (number_of l.names) l.lanes l.queue l.pending l.free.items l.all.items
