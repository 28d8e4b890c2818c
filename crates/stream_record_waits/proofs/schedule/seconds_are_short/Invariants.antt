use Rattle.std.proofs.Common.{◌<◌, ◌^◌, ℕ}
use Rattle.stream_record_waits.specs.Basis.{basis_of}
use Rattle.stream_record_waits.specs.Course.{seconds_at}
use Rattle.stream_record_waits.proofs.schedule.seconds_are_short.Given as goal

abbrev pub invariant-loop-step : goal.invariant-loop-step
invariant-loop-step l = (step : ℕ) → step < l.step → seconds_at (basis_of l.basis) step < 2 ^ 32
