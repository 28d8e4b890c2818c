use Rattle.std.proofs.Common.{◌≡◌}
use Rattle.stream_record_waits.specs.Basis.{basis_of, course_of}
use Rattle.stream_record_waits.specs.Course.{first_pinned}
use Rattle.stream_record_waits.specs.Steps.{lists_in}
use Rattle.stream_record_waits.proofs.pins.with_pins.Given as goal

abbrev pub invariant-loop-step : goal.invariant-loop-step
invariant-loop-step l = lists_in l.waits.items ≡ first_pinned (basis_of l.basis) (course_of l.course) l.step
