use Rattle.stream_record_waits.specs.Basis.{IsMark, basis_of, course_of}
use Rattle.stream_record_waits.proofs.course.LaneCourse.advanced.Given as goal

abbrev pub invariant-loop-mark : goal.invariant-loop-mark
invariant-loop-mark l = IsMark (basis_of l.basis) (course_of l.self) l.after l.mark

abbrev pub decreases-loop-mark : goal.decreases-loop-mark
decreases-loop-mark l = l.mark.left
