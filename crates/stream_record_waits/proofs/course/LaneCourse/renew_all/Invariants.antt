use Rattle.std.proofs.Common.{take}
use Rattle.std.specs.List.{Contains}
use Rattle.stream_record_waits.specs.Basis.{AreMarks, basis_of, course_of}
use Rattle.stream_record_waits.specs.ReadyTurns.{AreRenewed}
use Rattle.stream_record_waits.proofs.course.LaneCourse.renew_all.Given as goal

abbrev pub invariant-loop-step : goal.invariant-loop-step
invariant-loop-step l = record {
  marks : AreMarks (basis_of l.basis) (course_of l.self) l.marks.items;
  turns : AreRenewed (basis_of l.basis) (course_of l.self) l.initial.turns l.turns (Contains (take l.step-index l.steps));
}
