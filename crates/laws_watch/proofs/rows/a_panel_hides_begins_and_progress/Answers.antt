use Rattle.laws_watch.proofs.WholeLines.{row_is_line}
use Rattle.laws_watch.proofs.rows.a_panel_hides_begins_and_progress.Goals as goal

pub returns : goal.returns
returns c = row_is_line
