-- The words that name a run.
use Rattle.std.specs.Prelude.{ℕ, ◌+◌, ◌-◌, ◌*◌, List, [], ◌∷◌, codes, Bool, ◌&&◌, nat_lt, nat_le, if◌then◌else◌, Option, Some, None}
use Rattle.std.specs.Option.{option_and_then}
use Rattle.std.specs.Str.{bytes_eq}
use Rattle.stream_runs.specs.declared.choice.RunChoice.{RunChoice}
use Rattle.stream_runs.specs.declared.choice.RunChoice.TheVariants.{Last, Number}

abbrev pub is_digit : ℕ → Bool
is_digit byte = nat_le 48 byte && nat_le byte 57

-- the value of decimal digits after those that have this value; it stays below 1,000,000,000
abbrev pub digits_value : ℕ → List ℕ → Option ℕ
digits_value value [] = Some value
digits_value value (digit ∷ digits) =
    if is_digit digit then
    (if nat_lt (value * 10 + (digit - 48)) 1000000000 then digits_value (value * 10 + (digit - 48)) digits else None)
    else None

-- the run of the number that a word writes, from 1 on
abbrev pub number_named : List ℕ → Option RunChoice
number_named word = option_and_then (λ n. if nat_lt 0 n then Some (Number n) else None) (digits_value 0 word)

-- the run that a word names
abbrev pub run_named : List ℕ → Option RunChoice
run_named word = if bytes_eq word (codes "last") then Some Last else number_named word
