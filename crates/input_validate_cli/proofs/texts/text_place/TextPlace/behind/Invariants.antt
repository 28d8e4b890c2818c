use Rattle.std.proofs.Common.{◌≡◌, ◌+◌, ◌≤◌, drop}
use Rattle.input_validate_cli.specs.Lines.{line_count}
use Rattle.input_validate_cli.specs.Places.{column_after}
use Rattle.input_validate_cli.proofs.texts.text_place.TextPlace.behind.Given as goal

abbrev pub invariant-loop-byte : goal.invariant-loop-byte
invariant-loop-byte l =
    (l.line + line_count (drop l.byte-index l.text) ≡ line_count l.text + 1)
    × (column_after l.column (drop l.byte-index l.text) ≡ column_after 1 l.text)
    × (l.line ≤ l.byte-index + 1) × (l.column ≤ l.byte-index + 1)
