-- What the matches hold of an option.
use Rattle.std.proofs.Common.{◌≡◌, ◌∙◌, [], ap, Bor, ◌<◌, ◌^◌, ℕ, List, Option, Some, None, Result, Ok, Err, arith, refl, sym}
use Rattle.std.specs.Prelude.{IfSome, find, max, min, option_and_then, option_map, unwrap_or}
use Rattle.std.specs.Str.{bytes_eq}
use Rattle.std.specs.Str.Parse.{ParsesUnsigned, digits_value, without_leading_plus}
use Rattle.clap.specs.Matches.{ReadsOne}
use Rattle.clap.specs.Matches.{matched_of, raw_values}
use Rattle.clap.specs.Facts.{Entry}
use Rattle.clap.specs.Walk.{Row, Text, all_of, row_of, rows_of, texts}
use Rattle.clap.specs.declared.parser.matches.Found.{Found}
use Rattle.clap.specs.declared.parser.matches.MatchedArg.{MatchedArg}
use Rattle.clap.proofs.WalkLemmas.{find_row, raw_values-rows}
use Rattle.apply_cli_args.specs.CommandLine.{IsNumber, IsOptionalNumber}

number_read : (E : Type 0) (gives : Text → Result ℕ E → Type 0) (width most otherwise : ℕ) (read : Option ℕ) (n : ℕ) (text : Text)
    → ((t : Text) (r : Result ℕ E) → gives t r → ParsesUnsigned width 10 t r) → most < 2 ^ width
    → ReadsOne gives text read → n ≡ max 1 (min (unwrap_or read otherwise) most) → IsNumber most text n
number_read E gives width most otherwise (Some v) n text parses fits reads is numeral least greatest =
    let parsed = parses text (Ok v) reads in
    let stated : v ≡ digits_value 10 (without_leading_plus text) = parsed.1 in
    omega (arith, is, stated, least, greatest)
number_read E gives width most otherwise None n text parses fits reads is numeral least greatest =
    absurd (parses text (Err reads.0) reads.1 (numeral, omega (arith, greatest, fits)))

-- the value read from an option, clamped to its bounds, is the number that the option's text states
pub number_is : (E : Type 0) (gives : Text → Result ℕ E → Type 0) (width most otherwise : ℕ) (read : Option ℕ) (n : ℕ) (matched : Option Text)
    → ((t : Text) (r : Result ℕ E) → gives t r → ParsesUnsigned width 10 t r) → most < 2 ^ width
    → ((t : Text) → matched ≡ Some t → ReadsOne gives t read) → n ≡ max 1 (min (unwrap_or read otherwise) most)
    → IfSome matched (λ text. IsNumber most text n)
number_is E gives width most otherwise read n None parses fits reads is = tt
number_is E gives width most otherwise read n (Some text) parses fits reads is =
    number_read E gives width most otherwise read n text parses fits (reads text refl) is

option_read : (E : Type 0) (gives : Text → Result ℕ E → Type 0) (width most : ℕ) (read result : Option ℕ) (text : Text)
    → ((t : Text) (r : Result ℕ E) → gives t r → ParsesUnsigned width 10 t r) → most < 2 ^ width
    → ReadsOne gives text read → result ≡ option_map (λ v. max 1 (min v most)) read → IsOptionalNumber most text result
option_read E gives width most (Some v) result text parses fits reads is numeral least greatest =
    let parsed = parses text (Ok v) reads in
    let stated : v ≡ digits_value 10 (without_leading_plus text) = parsed.1 in
    let within : max 1 (min v most) ≡ digits_value 10 (without_leading_plus text) = omega (arith, stated, least, greatest) in
    is ∙ ap Some within
option_read E gives width most None result text parses fits reads is numeral least greatest =
    absurd (parses text (Err reads.0) reads.1 (numeral, omega (arith, greatest, fits)))

-- and so of an option that need not be given
pub option_is : (E : Type 0) (gives : Text → Result ℕ E → Type 0) (width most : ℕ) (read result : Option ℕ) (matched : Option Text)
    → ((t : Text) (r : Result ℕ E) → gives t r → ParsesUnsigned width 10 t r) → most < 2 ^ width
    → ((t : Text) → matched ≡ Some t → ReadsOne gives t read) → result ≡ option_map (λ v. max 1 (min v most)) read
    → IfSome matched (λ text. IsOptionalNumber most text result)
option_is E gives width most read result None parses fits reads is = tt
option_is E gives width most read result (Some text) parses fits reads is =
    option_read E gives width most read result text parses fits (reads text refl) is

-- the values of an option that may be given again, where the program's own list stands for none
pub values_are : (matched : Found) (id : Text) (lent : Option (Bor (List (Bor Text)))) (none values : Bor (List (Bor Text)))
    → option_map (λ s. texts s.now) lent ≡ option_map raw_values (matched_of matched id) → none.now ≡ [] → values ≡ unwrap_or lent none
    → texts values.now ≡ unwrap_or (all_of id (rows_of matched)) []
values_are matched id lent none values is empty given =
    ap (λ (s : Bor (List (Bor Text))). texts s.now) given ∙ inside lent ∙ ap (λ o. unwrap_or o []) (is ∙ raw_values-rows matched id)
  where
    inside : (o : Option (Bor (List (Bor Text)))) → texts (unwrap_or o none).now ≡ unwrap_or (option_map (λ s. texts s.now) o) []
    inside None = ap texts empty
    inside (Some s) = refl

-- where the value of an option came from
pub source-rows : (f : Found) (id : Text) → option_and_then (λ (a : MatchedArg). a.source) (matched_of f id)
    ≡ option_and_then (λ (r : Row). r.source) (find (λ (r : Row). bytes_eq r.id id) (rows_of f))
source-rows f id = go (find (λ e. bytes_eq e.0.now id) f.entries.items) ∙ ap (option_and_then (λ (r : Row). r.source)) (sym (find_row f.entries.items id))
  where
    go : (o : Option Entry) → option_and_then (λ (a : MatchedArg). a.source) (option_map (λ e. e.1) o) ≡ option_and_then (λ (r : Row). r.source) (option_map row_of o)
    go None = refl
    go (Some e) = refl
