-- How many changes are planned, and what became of them.
use Rattle.std.specs.Prelude.{ℕ, ◌+◌, ◌||◌, List, Bool, codes, if◌then◌else◌, min}
use Rattle.std.specs.Str.{bytes_eq}
use Rattle.stream_watch.specs.declared.counts.Counts.{Counts}

abbrev pub is_change : (action : List ℕ) → Bool
is_change action = bytes_eq action (codes "create") || bytes_eq action (codes "update") || bytes_eq action (codes "delete")

-- a number of 64 bits that stays at the greatest one
abbrev pub plus : ℕ → ℕ → ℕ
plus n more = min (n + more) 18446744073709551615

abbrev pub one_of : (action : List ℕ) → ℕ
one_of action = if is_change action then 1 else 0

-- a replacement counts as two
abbrev pub planned_of : (action : List ℕ) → ℕ
planned_of action = if bytes_eq action (codes "replace") then 2 else one_of action

abbrev pub no_counts : Counts
no_counts = record { planned = 0; done = 0; failed = 0; begun = 0 }

abbrev pub with_planned : (action : List ℕ) → Counts → Counts
with_planned action counts = record counts { planned = plus counts.planned (planned_of action) }

abbrev pub with_begun : (action : List ℕ) → Counts → Counts
with_begun action counts = record counts { begun = plus counts.begun (one_of action) }

abbrev pub with_done : (action : List ℕ) → Counts → Counts
with_done action counts = record counts { done = plus counts.done (one_of action) }

abbrev pub with_failed : (action : List ℕ) → Counts → Counts
with_failed action counts = record counts { failed = plus counts.failed (one_of action) }
