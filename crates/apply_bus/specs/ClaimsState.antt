-- The word of claims agrees with what was drawn.
use Rattle.std.specs.Prelude.{◌≡◌, ℕ, zero, suc, ◌+◌, ◌-◌, min, Bool, List, map, if◌then◌else◌}
use Rattle.std.specs.List.{range_with_len}
use Rattle.apply_events.specs.Partition.{IsPartition}

-- how many of the first workers have met the end
abbrev pub marks : (marked : ℕ → Bool) → (workers : ℕ) → ℕ
marks marked zero = 0
marks marked (suc worker) = (if marked worker then 1 else 0) + marks marked worker

-- the workers share out the numbers below the word and the limit; if the word is above the limit,
-- as many workers have met the end as it is above
pub record IsConsistent (workers limit word : ℕ) (drawn : ℕ → List ℕ) (met_none : ℕ → Bool) : Type 0 where
  pub partition : IsPartition workers (min word limit) (map drawn (range_with_len 0 workers))
  pub marked : marks met_none workers ≡ word - limit
