use Rattle.laws_watch.proofs.LineRows.{line_rows}
use Rattle.laws_watch.proofs.telling.each_line_is_told_once.Goals as goal

pub returns : goal.returns
returns c = line_rows
