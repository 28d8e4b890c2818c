use Rattle.std.proofs.Common.{◌≡◌, ◌<◌, ℕ, length}
use Rattle.stream_record_waits.specs.Basis.{AreMarks, basis_of, course_of}
use Rattle.stream_record_waits.specs.ReadyTurns.{IsTree, turn_in, turn_of}
use Rattle.stream_record_waits.proofs.course.LaneCourse.ready_turns.Given as goal

abbrev pub invariant-loop-step : goal.invariant-loop-step
invariant-loop-step l = record {
  marks : AreMarks (basis_of l.basis) (course_of l.self) l.marks.items;
  tree : IsTree l.turns;
  each : l.turns.count ≡ length l.basis.steps.now;
  are : (step : ℕ) → step < l.step → turn_in l.turns step ≡ turn_of (basis_of l.basis) (course_of l.self) step;
}
