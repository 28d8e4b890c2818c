use Rattle.stream_record_waits.specs.Basis.{basis_of, course_of}
use Rattle.stream_record_waits.proofs.Renewed.{more_renewed}
use Rattle.stream_record_waits.proofs.course.LaneCourse.renew_all.Goals as goal

pub loop-step-preserved : goal.loop-step-preserved
loop-step-preserved c = record {
  marks = c.renew.ensures.marks;
  turns = more_renewed (basis_of c.args.basis.now) (course_of c.args.self.now) c.args.steps.now c.loop-step.step-index c.args.turns.now c.loop-step.turns c.renew.new.turns c.loop-step-test.true
      c.loop-step.invariant.turns c.renew.ensures.turns;
}
