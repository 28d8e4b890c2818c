use Rattle.std.proofs.Common.{◌∙◌}
use Rattle.apply_events.specs.Runner.{course_of, left_of}
use Rattle.apply_events.specs.RunnerStep.{rest_of, step_at_hand}
use Rattle.apply_events.specs.Step.{steps_of}
use Rattle.apply_events.proofs.Stages.{finish_goes_on, finish_halts}
use Rattle.apply_events.proofs.UnderWay.{failed_over, next_course, next_time}
use Rattle.apply_events.proofs.runner.Runner.finish.Goals as goal

pub returns-in-Some-clause-next : goal.returns-in-Some-clause-next
returns-in-Some-clause-next g c =
    finish_halts c.args.self.now.worker (step_at_hand c.args.self.now c.args.kind) (rest_of c.args.self.now) (left_of c.args.self.now) c.args.self.now.at c.in-Some.hook c.requires.step.step (cc)

pub returns-in-None-2-clause-next : goal.returns-in-None-2-clause-next
returns-in-None-2-clause-next g c =
    c.advance-in-None-2.ensures.next
    ∙ finish_goes_on c.args.self.now.worker (step_at_hand c.args.self.now c.args.kind) (rest_of c.args.self.now) c.args.self.now.at (cc) (cc)

pub advance-requires-in-None-2-clause-time : goal.advance-requires-in-None-2-clause-time
advance-requires-in-None-2-clause-time g c =
    next_time (steps_of (course_of c.args.self.now).work c.args.self.now.change) c.args.self.now.step (step_at_hand c.args.self.now c.args.kind) c.args.self.now.begin c.args.self.now.at c.requires.step

pub advance-requires-clause-time : goal.advance-requires-clause-time
advance-requires-clause-time g c =
    failed_over (steps_of (course_of c.args.self.now).work c.args.self.now.change) c.args.self.now.step (step_at_hand c.args.self.now c.args.kind) c.args.self.now.begin c.args.self.now.at c.requires.step (cc)

pub advance-requires-in-None-2-clause-course : goal.advance-requires-in-None-2-clause-course
advance-requires-in-None-2-clause-course g c =
    next_course (steps_of (course_of c.args.self.now).work c.args.self.now.change) c.args.self.now.step (step_at_hand c.args.self.now c.args.kind) c.args.self.now.begin c.args.self.now.at c.requires.step (cc) (cc)
