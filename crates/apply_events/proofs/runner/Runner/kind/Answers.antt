use Rattle.apply_events.specs.Runner.{course_of}
use Rattle.apply_events.proofs.PlannedSteps.{at_hand, at_hand_few, at_hand_is, none_at_hand}
use Rattle.apply_events.proofs.runner.Runner.kind.Goals as goal

pub returns-clause-step : goal.returns-clause-step
returns-clause-step g c = at_hand (course_of c.args.self.now).work c.args.self.now.change c.args.self.now.step c.applied_steps.result.now c.kind_at.result c.applied_steps.ensures.steps c.kind_at.ensures

pub returns-clause-few : goal.returns-clause-few
returns-clause-few g c = at_hand_few c.applied_steps.result.now c.args.self.now.step c.kind_at.result c.applied_steps.ensures.few c.kind_at.ensures

pub returns-clause-none : goal.returns-clause-none
returns-clause-none g c = none_at_hand (course_of c.args.self.now).work c.args.self.now.change c.args.self.now.step c.applied_steps.result.now c.kind_at.result c.applied_steps.ensures.steps c.kind_at.ensures

pub returns-clause-has_step : goal.returns-clause-has_step
returns-clause-has_step g c = at_hand_is (course_of c.args.self.now).work c.args.self.now.change c.args.self.now.step c.applied_steps.result.now c.kind_at.result c.applied_steps.ensures.steps c.kind_at.ensures
