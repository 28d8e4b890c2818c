use Rattle.std.proofs.Common.{◌≤◌}
use Rattle.term_text.proofs.wrapping.line_len.Given as goal

abbrev pub invariant-back : goal.invariant-back
invariant-back l = (l.len ≤ l.full) × (1 ≤ l.full → 1 ≤ l.len)

abbrev pub decreases-back : goal.decreases-back
decreases-back l = l.len
