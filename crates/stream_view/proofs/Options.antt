-- What the matches hold of a number.
use Rattle.std.proofs.Common.{◌≡◌, ◌<◌, ◌^◌, ℕ, Option, Some, None, Result, Ok, Err, arith, refl}
use Rattle.std.specs.Prelude.{IfSome, max, min, unwrap_or}
use Rattle.std.specs.Str.Parse.{ParsesUnsigned, digits_value, without_leading_plus}
use Rattle.clap.specs.Matches.{ReadsOne}
use Rattle.clap.specs.Walk.{Text}
use Rattle.stream_view.specs.CommandLine.{IsNumber}

number_read : (E : Type 0) (gives : Text → Result ℕ E → Type 0) (least most otherwise : ℕ) (read : Option ℕ) (n : ℕ) (text : Text)
    → ((t : Text) (r : Result ℕ E) → gives t r → ParsesUnsigned 32 10 t r) → most < 2 ^ 32
    → ReadsOne gives text read → n ≡ max least (min (unwrap_or read otherwise) most) → IsNumber least most text n
number_read E gives least most otherwise (Some v) n text parses fits reads is numeral low high =
    let parsed = parses text (Ok v) reads in
    let stated : v ≡ digits_value 10 (without_leading_plus text) = parsed.1 in
    omega (arith, is, stated, low, high)
number_read E gives least most otherwise None n text parses fits reads is numeral low high =
    absurd (parses text (Err reads.0) reads.1 (numeral, omega (arith, high, fits)))

-- the value of an option, clamped to its bounds, is the number in the option's text
pub number_is : (E : Type 0) (gives : Text → Result ℕ E → Type 0) (least most otherwise : ℕ) (read : Option ℕ) (n : ℕ) (listed : Option Text)
    → ((t : Text) (r : Result ℕ E) → gives t r → ParsesUnsigned 32 10 t r) → most < 2 ^ 32
    → ((t : Text) → listed ≡ Some t → ReadsOne gives t read) → n ≡ max least (min (unwrap_or read otherwise) most)
    → IfSome listed (λ text. IsNumber least most text n)
number_is E gives least most otherwise read n None parses fits reads is = tt
number_is E gives least most otherwise read n (Some text) parses fits reads is =
    number_read E gives least most otherwise read n text parses fits (reads text refl) is
