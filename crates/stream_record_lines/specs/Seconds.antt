-- Seconds of messages.
use Rattle.std.specs.Prelude.{ℤ, pos, ◌+ℤ◌, int_lt, if◌then◌else◌}
use Rattle.std.specs.Int.{int_div_euclid, int_rem_euclid}

-- the second that is nearest to an instant in microseconds; half a second counts as one more
abbrev pub nearest_second : (instant : ℤ) → ℤ
nearest_second instant =
    if int_lt (int_rem_euclid instant (pos 1000000)) (pos 500000) then int_div_euclid instant (pos 1000000)
    else int_div_euclid instant (pos 1000000) +ℤ pos 1
