use Rattle.laws_watch.proofs.Errors.{error_row, operation_row, provisioner_row, step_row}
use Rattle.laws_watch.proofs.telling.an_error_asks_for_one_row.Goals as goal

pub returns-clause-diagnostic : goal.returns-clause-diagnostic
returns-clause-diagnostic c = error_row

pub returns-clause-step : goal.returns-clause-step
returns-clause-step c = step_row

pub returns-clause-operation : goal.returns-clause-operation
returns-clause-operation c = operation_row

pub returns-clause-provisioner : goal.returns-clause-provisioner
returns-clause-provisioner c = provisioner_row
