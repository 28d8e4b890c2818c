-- What the parser states of the command, and of its options.
use Rattle.std.proofs.Common.{◌≡◌, ◌∙◌, ℕ, Option, None, Some, Result, Ok, Err, true, ap, arith, refl}
use Rattle.std.specs.Prelude.{IfOk, IfSome, max, min}
use Rattle.std.specs.Str.Parse.{ParsesUnsigned, digits_value, without_leading_plus}
use Rattle.clap.specs.Faults.{is_simple_and_free}
use Rattle.clap.specs.Matches.{ReadsOne}
use Rattle.clap.specs.Simple.{App, is_simple}
use Rattle.clap.specs.Walk.{Text}
use Rattle.clap.specs.declared.builder.value_parser.ValueParser.{ValueParser}
use Rattle.clap.proofs.OnLiterals.{clap_on_literals}
use Rattle.stream_watch_cli.specs.CommandLine.{IsCommand, IsWidth, command_line}

-- `clap` states the result of parsing for simple commands; `watch` is one
line_is_simple : (colours panels : ValueParser) → is_simple (command_line colours panels) ≡ true
unfolding clap_on_literals
line_is_simple colours panels = refl

line_is_free : (colours panels : ValueParser) → is_simple_and_free (command_line colours panels) ≡ true
unfolding clap_on_literals
line_is_free colours panels = refl

pub command_is_simple : (app : App) → IsCommand app → is_simple app ≡ true
command_is_simple app is = ap is_simple is.4 ∙ line_is_simple is.0 is.1

pub command_is_free : (app : App) → IsCommand app → is_simple_and_free app ≡ true
command_is_free app is = ap is_simple_and_free is.4 ∙ line_is_free is.0 is.1

-- what follows for each value that was made
pub then_made : {A E : Type 0} (P Q : A → Type 0) (made : Result A E) → ((a : A) → P a → Q a) → IfOk made P → IfOk made Q
then_made P Q (Ok a) follows is = follows a is
then_made P Q (Err e) follows is = tt

-- the width in the option's text
pub width_read : (E : Type 0) (gives : Text → Result ℕ E → Type 0) (v n : ℕ) (listed : Option Text)
    → ((t : Text) (r : Result ℕ E) → gives t r → ParsesUnsigned 32 10 t r) → ((t : Text) → listed ≡ Some t → ReadsOne gives t (Some v)) → n ≡ max 60 (min v 400)
    → IfSome listed (λ text. IsWidth text (Some n))
width_read E gives v n None parses reads is = tt
width_read E gives v n (Some text) parses reads is = λ numeral low high.
    let parsed = parses text (Ok v) (reads text refl) in
    let stated : v ≡ digits_value 10 (without_leading_plus text) = parsed.1 in
    let same : n ≡ digits_value 10 (without_leading_plus text) = omega (arith, is, stated, low, high) in
    ap (λ (m : ℕ). let o : Option ℕ = Some m in o) same

-- a width that can't be read is none
pub width_missing : (E : Type 0) (gives : Text → Result ℕ E → Type 0) (listed : Option Text)
    → ((t : Text) (r : Result ℕ E) → gives t r → ParsesUnsigned 32 10 t r) → ((t : Text) → listed ≡ Some t → ReadsOne gives t None)
    → IfSome listed (λ text. IsWidth text None)
width_missing E gives None parses reads = tt
width_missing E gives (Some text) parses reads = λ numeral low high.
    let read = reads text refl in
    absurd (parses text (Err read.0) read.1 (numeral, omega (arith, high)))
