use Rattle.apply_events.specs.Runner.{course_of}
use Rattle.apply_events.specs.RunnerStep.{rest_of, step_at_hand}
use Rattle.apply_events.specs.Step.{steps_of}
use Rattle.apply_events.proofs.UnderWay.{halted_time}
use Rattle.apply_events.proofs.runner.Runner.begin.Goals as goal

pub invariant_of-self-clause-on_time : goal.invariant_of-self-clause-on_time
invariant_of-self-clause-on_time g c =
    halted_time (steps_of (course_of c.args.self.now).work c.args.self.now.change) c.args.self.now.step (step_at_hand c.args.self.now c.args.kind) (rest_of c.args.self.now) c.args.self.now.begin c.args.self.now.at c.in-Some.hook c.args.self.now.stage c.requires.step c.requires.stage c.args.self.now.on_course c.args.self.now.on_time (cc)
