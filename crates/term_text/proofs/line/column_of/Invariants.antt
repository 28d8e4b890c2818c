use Rattle.std.proofs.Common.{◌≡◌, ◌%◌}
use Rattle.term_text.specs.Columns.{columns_of}
use Rattle.term_text.proofs.line.column_of.Given as goal

abbrev pub invariant-loop-character : goal.invariant-loop-character
invariant-loop-character l = l.column ≡ columns_of l.yielded % 8
