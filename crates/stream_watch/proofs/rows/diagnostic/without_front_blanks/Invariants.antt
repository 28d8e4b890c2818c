use Rattle.std.proofs.Common.{◌≡◌, ◌-◌, ◌<◌, ◌≤◌, ℕ, get_or, length}
use Rattle.stream_watch.proofs.rows.diagnostic.without_front_blanks.Given as goal

abbrev pub invariant-front : goal.invariant-front
invariant-front l = (l.len ≤ length l.line) × ((k : ℕ) → k < l.len → get_or l.line k 0 ≡ 32)

abbrev pub decreases-front : goal.decreases-front
decreases-front l = length l.line - l.len
