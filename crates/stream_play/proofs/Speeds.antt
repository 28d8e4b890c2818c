-- What the matches hold of the speed.
use Rattle.std.proofs.Common.{◌≡◌, ℕ, Option, Some, None, Result, Ok, Err, arith, refl}
use Rattle.std.specs.Prelude.{IfSome, max, min, unwrap_or}
use Rattle.std.specs.Str.Parse.{ParsesUnsigned, digits_value, without_leading_plus}
use Rattle.clap.specs.Matches.{ReadsOne}
use Rattle.clap.specs.Walk.{Text}
use Rattle.stream_play.specs.CommandLine.{IsSpeed}
use Rattle.stream_play.specs.Due.{most_speed}

speed_read : {E : Type 0} (gives : Text → Result ℕ E → Type 0) (read : Option ℕ) (n : ℕ) (text : Text)
    → ((t : Text) (r : Result ℕ E) → gives t r → ParsesUnsigned 32 10 t r)
    → ReadsOne gives text read → n ≡ max 1 (min (unwrap_or read 1) most_speed) → IsSpeed text n
speed_read gives (Some v) n text parses reads is numeral least greatest =
    let parsed = parses text (Ok v) reads in
    let said : v ≡ digits_value 10 (without_leading_plus text) = parsed.1 in
    omega (arith, is, said, least, greatest)
speed_read gives None n text parses reads is numeral least greatest =
    absurd (parses text (Err reads.0) reads.1 (numeral, omega (arith, greatest)))

-- the value of the option, brought into the range, is the number of its text
pub speed_is : {E : Type 0} (gives : Text → Result ℕ E → Type 0) (read : Option ℕ) (n : ℕ) (found : Option Text)
    → ((t : Text) (r : Result ℕ E) → gives t r → ParsesUnsigned 32 10 t r)
    → ((t : Text) → found ≡ Some t → ReadsOne gives t read) → n ≡ max 1 (min (unwrap_or read 1) most_speed)
    → IfSome found (λ text. IsSpeed text n)
speed_is gives read n None parses reads is = tt
speed_is gives read n (Some text) parses reads is = speed_read gives read n text parses (reads text refl) is
