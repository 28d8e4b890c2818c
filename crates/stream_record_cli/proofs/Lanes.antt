-- What the matches hold of the number of lanes.
use Rattle.std.proofs.Common.{◌≡◌, ℕ, Option, Some, None, Result, Ok, Err, arith, refl}
use Rattle.std.specs.Prelude.{IfSome, max, min, unwrap_or}
use Rattle.std.specs.Str.Parse.{ParsesUnsigned, digits_value, without_leading_plus}
use Rattle.clap.specs.Matches.{ReadsOne}
use Rattle.clap.specs.Walk.{Text}
use Rattle.stream_record_cli.specs.CommandLine.{IsLanes}

lanes_read : (E : Type 0) (gives : Text → Result ℕ E → Type 0) (read : Option ℕ) (n : ℕ) (text : Text)
    → ((t : Text) (r : Result ℕ E) → gives t r → ParsesUnsigned 8 10 t r)
    → ReadsOne gives text read → n ≡ max 1 (min (unwrap_or read 10) 64) → IsLanes text n
lanes_read E gives (Some v) n text parses reads is numeral low high =
    let parsed = parses text (Ok v) reads in
    let stated : v ≡ digits_value 10 (without_leading_plus text) = parsed.1 in
    omega (arith, is, stated, low, high)
lanes_read E gives None n text parses reads is numeral low high =
    absurd (parses text (Err reads.0) reads.1 (numeral, omega (arith, high)))

-- the value of the option, clamped to its bounds, is the number in the option's text
pub lanes_are : (E : Type 0) (gives : Text → Result ℕ E → Type 0) (read : Option ℕ) (n : ℕ) (listed : Option Text)
    → ((t : Text) (r : Result ℕ E) → gives t r → ParsesUnsigned 8 10 t r)
    → ((t : Text) → listed ≡ Some t → ReadsOne gives t read) → n ≡ max 1 (min (unwrap_or read 10) 64)
    → IfSome listed (λ text. IsLanes text n)
lanes_are E gives read n None parses reads is = tt
lanes_are E gives read n (Some text) parses reads is = lanes_read E gives read n text parses (reads text refl) is
