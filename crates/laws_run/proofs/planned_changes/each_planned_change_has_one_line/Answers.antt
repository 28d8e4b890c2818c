use Rattle.laws_run.proofs.PlannedLines.{each_told, lines, pieces}
use Rattle.laws_run.proofs.planned_changes.each_planned_change_has_one_line.Goals as goal

pub returns : goal.returns
returns c = record { pieces = pieces; planned = each_told; lines = lines }
