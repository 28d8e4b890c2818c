-- As many lines were added as findings were passed.
use Rattle.std.proofs.Common.{◌≡◌, ◌+◌, string_bytes}
use Rattle.input_validate_cli.specs.Lines.{line_count}
use Rattle.input_validate_cli.proofs.command.report_text.push_tree.Given as goal

abbrev pub invariant-loop-finding : goal.invariant-loop-finding
invariant-loop-finding l = line_count (string_bytes l.text) ≡ line_count (string_bytes l.initial.text) + l.finding-index
