use Rattle.apply_plan.proofs.Scripts.Waited.{HasSteps}
use Rattle.apply_plan.proofs.script.entry_resolution.resolve_steps.Given as goal

abbrev pub invariant-loop-step : goal.invariant-loop-step
invariant-loop-step l = HasSteps l.plan.changes l.steps l.step-index l.outcomes.items l.lacks_step
