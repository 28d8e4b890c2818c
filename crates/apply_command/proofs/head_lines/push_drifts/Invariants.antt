use Rattle.std.proofs.Common.{◌≡◌, ◌++◌, map, take, true}
use Rattle.std.specs.List.{list_all}
use Rattle.apply_command.specs.declared.head_line.HeadLine.TheVariants as line
use Rattle.apply_command.specs.InTime.{is_in_time}
use Rattle.apply_command.proofs.head_lines.push_drifts.Given as goal

abbrev pub invariant-loop-number : goal.invariant-loop-number
invariant-loop-number l = (l.lines.items ≡ l.initial.lines.items ++ map line.Drift (take l.number-index l.drifts))
    × (list_all is_in_time l.initial.lines.items ≡ true → list_all is_in_time l.lines.items ≡ true)
