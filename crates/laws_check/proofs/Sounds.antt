-- The texts of timestamps and of seconds are ASCII.
use Rattle.std.proofs.Common.{ℕ, ◌/◌, ◌%◌, ◌<◌, ◌^◌, ◌++◌, codes, cond, decimal, IsUtf8, nat_lt, Bool, true, false, refl, arith}
use Rattle.std.proofs.lemmas.Fmt.{IsAscii-decimal}
use Rattle.std.proofs.lemmas.Str.{IsUtf8-append, IsUtf8-from_ascii}
use Rattle.json.proofs.Printed.Utf8.{IsUtf8-are_ascii}
use Rattle.apply_text.specs.Elapsed.{elapsed_of, minutes_text, seconds_text}
use Rattle.apply_text.specs.UtcTimestamp.{timestamp_text}
use Rattle.apply_text_terraform.specs.UtcTimestamp.{precise_timestamp_text}
use Rattle.laws_check.proofs.BareTexts.{bare_utf8, fine_bare, moment_bare}

pub moment_utf8 : (seconds : ℕ) → IsUtf8 (timestamp_text seconds)
moment_utf8 seconds = bare_utf8 (timestamp_text seconds) (moment_bare seconds)

-- a timestamp with its decimals
pub fine_utf8 : (seconds : ℕ) → IsUtf8 (precise_timestamp_text seconds)
fine_utf8 seconds = bare_utf8 (precise_timestamp_text seconds) (fine_bare seconds)

-- ---- how long something took

pub number_utf8 : (n : ℕ) → n < 2 ^ 64 → IsUtf8 (decimal n)
number_utf8 n less = IsUtf8-from_ascii (decimal n) (IsAscii-decimal n less)

pub elapsed_utf8 : (seconds : ℕ) → seconds < 2 ^ 64 → IsUtf8 (elapsed_of seconds)
elapsed_utf8 seconds less = either (nat_lt seconds 60) (nat_lt seconds 3600)
  where
    last : IsUtf8 (seconds_text seconds)
    last = IsUtf8-append (decimal (seconds % 60)) (codes "s") (number_utf8 (seconds % 60) (omega arith)) (IsUtf8-are_ascii (codes "s") refl)

    minutes : IsUtf8 (minutes_text seconds)
    minutes =
        IsUtf8-append (decimal (seconds / 60 % 60) ++ codes "m") (seconds_text seconds)
        (IsUtf8-append (decimal (seconds / 60 % 60)) (codes "m") (number_utf8 (seconds / 60 % 60) (omega arith)) (IsUtf8-are_ascii (codes "m") refl)) last

    either : (a b : Bool) → IsUtf8 (cond a (seconds_text seconds) (cond b (minutes_text seconds) (decimal (seconds / 3600) ++ codes "h" ++ minutes_text seconds)))
    either true b = last
    either false true = minutes
    either false false =
        IsUtf8-append (decimal (seconds / 3600) ++ codes "h") (minutes_text seconds)
        (IsUtf8-append (decimal (seconds / 3600)) (codes "h") (number_utf8 (seconds / 3600) (omega arith)) (IsUtf8-are_ascii (codes "h") refl)) minutes
