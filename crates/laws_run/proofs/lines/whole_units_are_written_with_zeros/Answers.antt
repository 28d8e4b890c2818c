use Rattle.laws_run.proofs.Durations.{hours, minutes}
use Rattle.laws_run.proofs.lines.whole_units_are_written_with_zeros.Goals as goal

pub returns-clause-minutes : goal.returns-clause-minutes
returns-clause-minutes c = minutes

pub returns-clause-hours : goal.returns-clause-hours
returns-clause-hours c = hours
