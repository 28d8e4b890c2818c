use Rattle.stream_record_waits.specs.Basis.{basis_of}
use Rattle.stream_record_waits.specs.Steps.{lists_in}
use Rattle.stream_record_waits.specs.Waiters.{AreFirstWaiters}
use Rattle.stream_record_waits.proofs.waiters.waiters_of.Given as goal

abbrev pub invariant-loop-step : goal.invariant-loop-step
invariant-loop-step l = AreFirstWaiters (basis_of l.basis) l.step (lists_in l.waiters.items)
