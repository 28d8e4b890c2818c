-- Numbers that one drawer has drawn.
use Rattle.std.specs.Prelude.{ℕ, ◌<◌, List, All}
use Rattle.std.specs.List.Sorted.{IsStrictlyIncreasing}

-- the numbers rise, and stay below the limit
pub record IsDrawn (limit : ℕ) (numbers : List ℕ) : Type 0 where
  pub rising : IsStrictlyIncreasing numbers
  pub below : All (λ number. number < limit) numbers
