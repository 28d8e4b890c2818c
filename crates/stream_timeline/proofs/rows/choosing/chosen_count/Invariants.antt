use Rattle.std.proofs.Common.{◌≡◌, ◌-◌, ◌<◌, ◌≤◌, ℕ, get_or, length, true}
use Rattle.stream_timeline.specs.declared.rows.choosing.Candidate.{Candidate}
use Rattle.stream_timeline.specs.Rows.{gets_row_within}
use Rattle.stream_timeline.proofs.rows.choosing.chosen_count.Given as goal

-- each so far gets a row
abbrev pub invariant-front : goal.invariant-front
invariant-front l = record {
  bound : l.count ≤ length l.ranked;
  before : (rank : ℕ) (d : Candidate) → rank < l.count → gets_row_within l.limit l.span rank (get_or l.ranked rank d) ≡ true;
}

abbrev pub decreases-front : goal.decreases-front
decreases-front l = length l.ranked - l.count
