use Rattle.apply_events.specs.Runner.{course_of}
use Rattle.apply_events.specs.RunnerStep.{step_at_hand}
use Rattle.apply_events.specs.Step.{steps_of}
use Rattle.apply_events.proofs.UnderWay.{halted_over}
use Rattle.apply_events.proofs.runner.Runner.halt.Goals as goal

pub advance-requires-clause-time : goal.advance-requires-clause-time
advance-requires-clause-time g c =
    halted_over (steps_of (course_of c.args.self.now).work c.args.self.now.change) c.args.self.now.step (step_at_hand c.args.self.now c.args.kind) c.args.self.now.begin c.args.self.now.at c.args.hook c.args.self.now.stage c.requires.step c.requires.stage c.args.self.now.on_course c.args.self.now.on_time
