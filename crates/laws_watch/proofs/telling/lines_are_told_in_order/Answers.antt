use Rattle.laws_watch.proofs.LinesRows.{lines_rows}
use Rattle.laws_watch.proofs.telling.lines_are_told_in_order.Goals as goal

pub returns : goal.returns
returns c = lines_rows
