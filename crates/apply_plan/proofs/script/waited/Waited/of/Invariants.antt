use Rattle.apply_plan.proofs.Scripts.Waited.{HasWaited}
use Rattle.apply_plan.proofs.script.waited.Waited.of.Given as goal

abbrev pub invariant-loop-item : goal.invariant-loop-item
invariant-loop-item l = HasWaited l.plan.changes l.items l.item-index l.waits.items l.lacks_step
