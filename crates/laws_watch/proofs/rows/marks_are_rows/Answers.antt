use Rattle.laws_watch.proofs.WholeLines.{no_row, one_row}
use Rattle.laws_watch.proofs.rows.marks_are_rows.Goals as goal

pub returns-clause-none : goal.returns-clause-none
returns-clause-none c = no_row

pub returns-clause-one : goal.returns-clause-one
returns-clause-one c = one_row
