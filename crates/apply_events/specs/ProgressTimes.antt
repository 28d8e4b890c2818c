-- When a step reports progress (Machine-Readable UI, "Operation Messages", `apply_progress`).
use Rattle.std.specs.Prelude.{ℕ, ◌-◌, ◌%◌, ◌==◌, Bool, List, filter}
use Rattle.std.specs.List.{range_with_len}

-- The number is a multiple of ten.
abbrev pub is_multiple_of_ten : ℕ → Bool
is_multiple_of_ten n = n % 10 == 0

-- The seconds after which a step of d seconds reports progress: the multiples of ten between 0 and
-- d, both excluded, in order.
abbrev pub progress_times : ℕ → List ℕ
progress_times d = filter is_multiple_of_ten (range_with_len 1 (d - 1))
