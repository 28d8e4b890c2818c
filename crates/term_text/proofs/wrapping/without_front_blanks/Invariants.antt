use Rattle.std.proofs.Common.{◌≡◌, ◌-◌, ◌<◌, ◌≤◌, ℕ, get_or, length}
use Rattle.term_text.proofs.wrapping.without_front_blanks.Given as goal

abbrev pub invariant-front : goal.invariant-front
invariant-front l = (l.len ≤ length l.characters) × ((k : ℕ) → k < l.len → get_or l.characters k 0 ≡ 32)

abbrev pub decreases-front : goal.decreases-front
decreases-front l = length l.characters - l.len
