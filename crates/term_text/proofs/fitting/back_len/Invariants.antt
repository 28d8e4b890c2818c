use Rattle.std.proofs.Common.{◌≡◌, ◌+◌, ◌-◌, ◌≤◌, drop, length}
use Rattle.term_text.specs.Columns.{columns_of}
use Rattle.term_text.proofs.fitting.back_len.Given as goal

abbrev pub invariant-back : goal.invariant-back
invariant-back l =
    (l.len ≤ length l.characters) × (l.left + columns_of (drop (length l.characters - l.len) l.characters) ≡ l.limit)

abbrev pub decreases-back : goal.decreases-back
decreases-back l = length l.characters - l.len
