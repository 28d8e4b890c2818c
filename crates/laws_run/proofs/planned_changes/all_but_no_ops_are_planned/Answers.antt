use Rattle.laws_run.proofs.PlannedElements.{all_but_no_ops}
use Rattle.laws_run.proofs.planned_changes.all_but_no_ops_are_planned.Goals as goal

pub returns : goal.returns
returns c = all_but_no_ops
