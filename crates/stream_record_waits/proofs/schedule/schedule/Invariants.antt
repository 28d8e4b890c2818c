use Rattle.std.proofs.Common.{◌≡◌}
use Rattle.stream_record_waits.specs.Basis.{AreMarks, IsCourse, basis_of, course_of}
use Rattle.stream_record_waits.specs.Course.{after_rounds}
use Rattle.stream_record_waits.specs.ReadyTurns.{AreReadyTurns}
use Rattle.stream_record_waits.proofs.schedule.schedule.Given as goal

abbrev pub invariant-loop-round : goal.invariant-loop-round
invariant-loop-round l = record {
  rounds : course_of l.course ≡ after_rounds (basis_of l.basis) l.lanes l.round;
  course : IsCourse (basis_of l.basis) l.round (course_of l.course);
  marks : AreMarks (basis_of l.basis) (course_of l.course) l.marks.items;
  turns : AreReadyTurns (basis_of l.basis) (course_of l.course) l.turns;
}
