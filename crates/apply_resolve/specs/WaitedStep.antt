-- The step of a change that another step waits for, by its number (the script's own format).
use Rattle.std.specs.Prelude.{ℕ, ◌-◌, nat_lt, if◌then◌else◌, Option, Some, None, unwrap_or}

-- The number of the step to wait for, in a change with `count` steps: the stated number, or the
-- last step.
abbrev pub waited_number : (count : ℕ) → (step : Option ℕ) → ℕ
waited_number count step = unwrap_or step (count - 1)

-- That number, where the change has such a step.
abbrev pub waited_step : (count : ℕ) → (step : Option ℕ) → Option ℕ
waited_step count step =
    if nat_lt (waited_number count step) count then Some (waited_number count step) else None
