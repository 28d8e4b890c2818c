use Rattle.std.proofs.Common.{◌≡◌, ◌≤◌, [], length}
use Rattle.term_text.specs.Columns.{columns_of}
use Rattle.term_text.proofs.wrapping.wrapped.Given as goal

abbrev pub invariant-lines : goal.invariant-lines
invariant-lines l =
    columns_of l.text ≤ l.limit → (l.lines.items ≡ l.initial.lines.items) × (l.rest ≡ [])

abbrev pub decreases-lines : goal.decreases-lines
decreases-lines l = length l.rest
