use Rattle.laws_run.proofs.LineTypes.{only_planned}
use Rattle.laws_run.proofs.planned_changes.only_planned_changes_have_type_planned_change.Goals as goal

pub returns : goal.returns
returns c = only_planned
