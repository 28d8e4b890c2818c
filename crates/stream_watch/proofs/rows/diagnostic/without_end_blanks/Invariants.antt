use Rattle.std.proofs.Common.{◌≡◌, ◌<◌, ◌≤◌, ℕ, get_or, length}
use Rattle.stream_watch.proofs.rows.diagnostic.without_end_blanks.Given as goal

abbrev pub invariant-back : goal.invariant-back
invariant-back l = (l.len ≤ length l.line) × ((k : ℕ) → l.len ≤ k → k < length l.line → get_or l.line k 0 ≡ 32)

abbrev pub decreases-back : goal.decreases-back
decreases-back l = l.len
