use Rattle.laws_watch.proofs.Marks.{marks_few, rows_few, rows_seldom}
use Rattle.laws_watch.proofs.progress.progress_is_thinned.Goals as goal

pub returns-clause-few : goal.returns-clause-few
returns-clause-few c = rows_few

pub returns-clause-rows : goal.returns-clause-rows
returns-clause-rows c = rows_seldom

pub returns-clause-seldom : goal.returns-clause-seldom
returns-clause-seldom c = marks_few
