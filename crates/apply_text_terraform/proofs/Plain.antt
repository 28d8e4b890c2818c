-- Numbers and timestamps need no escapes.
use Rattle.std.proofs.Common.{◌≡◌, ℕ, zero, suc, ◌+◌, ◌/◌, ◌%◌, ◌<◌, ◌≤◌, ◌==◌, List, [], ◌∷◌, ◌++◌, codes, cond, decimal, nat_lt, slice_get, Bool, true, false, refl, ap₂, arith}
use Rattle.std.specs.Prelude.{◌&&◌, ◌||◌, not}
use Rattle.std.specs.Fmt.{digit_glyph, digits, digits_onto}
use Rattle.std.specs.List.{AllByRecursion}
use Rattle.std.specs.Option.{option_map_or}
use Rattle.std.proofs.lemmas.Bool.{ne_eqb}
use Rattle.std.proofs.lemmas.Bool.Decides.{nat_tests}
use Rattle.std.proofs.lemmas.Grind.{common_steps}
use Rattle.json.specs.Print.{escape, escape_byte}
use Rattle.json.proofs.Printed.Strings.{escape_byte_plain}
use Rattle.apply_text.specs.Calendar.{CivilDate, date_of_day, dates}
use Rattle.apply_text.specs.CachedParts.{unterminated_date, time_of_day}
use Rattle.apply_text.specs.Elapsed.{elapsed_of, minutes_text, seconds_text}
use Rattle.apply_text.specs.UtcTimestamp.{date_text, two_digits}
use Rattle.apply_text.proofs.ShortDates.{IsShort, dates_short}
use Rattle.apply_text_terraform.proofs.Cuts.{IsPlain, both_plain, is_plain}

-- ---- figures

lower : (a b : ℕ) → a < b → nat_lt a b ≡ true
lower a b h = grind (arith, nat_tests)

-- from `-` to `9`
figure_plain : (byte : ℕ) → 45 ≤ byte → byte < 58 → is_plain byte ≡ true
figure_plain byte least most =
    of_tests (nat_lt byte 128) (byte == 60) (byte == 62) (byte == 38) (byte == 226)
    (lower byte 128 (omega (arith, most))) (ne_eqb byte 60 (λ e. omega (arith, e, most))) (ne_eqb byte 62 (λ e. omega (arith, e, most))) (ne_eqb byte 38 (λ e. omega (arith, e, least))) (ne_eqb byte 226 (λ e. omega (arith, e, most)))
  where
    of_tests : (t a b c d : Bool) → t ≡ true → a ≡ false → b ≡ false → c ≡ false → d ≡ false → (t && not (a || b || c || d)) ≡ true
    of_tests t a b c d ht ha hb hc hd = rw (ht, ha, hb, hc, hd) refl

one_plain : (byte : ℕ) → 45 ≤ byte → byte < 58 → (rest : List ℕ) → IsPlain rest → IsPlain (byte ∷ rest)
one_plain byte least most rest plain = ap₂ (λ a b. a && b) (figure_plain byte least most) plain

in_digit : (d : ℕ) → d < 10 → digit_glyph false d ≡ 48 + d
in_digit d few = grind (arith, common_steps)

digits_plain : (k n : ℕ) (digits : List ℕ) → IsPlain digits → IsPlain (digits_onto k 10 false n digits)
digits_plain zero n digits plain = plain
digits_plain (suc k) n digits plain =
    let more : IsPlain (digit_glyph false (n % 10) ∷ digits) = rw (in_digit (n % 10) (omega arith)) (one_plain (48 + n % 10) (omega arith) (omega arith) digits plain) in
    of_test (n / 10 == 0) more (digits_plain k (n / 10) (digit_glyph false (n % 10) ∷ digits) more)
  where
    of_test : (b : Bool) → IsPlain (digit_glyph false (n % 10) ∷ digits) → IsPlain (digits_onto k 10 false (n / 10) (digit_glyph false (n % 10) ∷ digits))
        → IsPlain (cond b (digit_glyph false (n % 10) ∷ digits) (digits_onto k 10 false (n / 10) (digit_glyph false (n % 10) ∷ digits)))
    of_test true one others = one
    of_test false one others = others

pub decimal_plain : (n : ℕ) → IsPlain (decimal n)
unfolding digits
decimal_plain n = digits_plain 64 n [] refl

pub elapsed_plain : (seconds : ℕ) → IsPlain (elapsed_of seconds)
elapsed_plain seconds = either (nat_lt seconds 60) (nat_lt seconds 3600)
  where
    last : IsPlain (seconds_text seconds)
    last = both_plain (decimal (seconds % 60)) (codes "s") (decimal_plain (seconds % 60)) refl

    minutes : IsPlain (minutes_text seconds)
    minutes = both_plain (decimal (seconds / 60 % 60) ++ codes "m") (seconds_text seconds) (both_plain (decimal (seconds / 60 % 60)) (codes "m") (decimal_plain (seconds / 60 % 60)) refl) last

    hours : IsPlain (decimal (seconds / 3600) ++ codes "h" ++ minutes_text seconds)
    hours = both_plain (decimal (seconds / 3600) ++ codes "h") (minutes_text seconds) (both_plain (decimal (seconds / 3600)) (codes "h") (decimal_plain (seconds / 3600)) refl) minutes

    either : (a b : Bool) → IsPlain (cond a (seconds_text seconds) (cond b (minutes_text seconds) (decimal (seconds / 3600) ++ codes "h" ++ minutes_text seconds)))
    either true b = last
    either false true = minutes
    either false false = hours

-- ---- timestamps

two_plain : (n : ℕ) → n < 100 → IsPlain (two_digits n)
two_plain n few = one_plain (48 + n / 10) (omega arith) (omega arith) ((48 + n % 10) ∷ []) (one_plain (48 + n % 10) (omega arith) (omega arith) [] refl)

pub time_plain : (second : ℕ) → second < 86400 → IsPlain (time_of_day second)
time_plain second few =
    let hours = two_digits (second / 3600) in
    let minutes = two_digits (second / 60 % 60) in
    let seconds = two_digits (second % 60) in
    both_plain (codes "T") (hours ++ (codes ":" ++ (minutes ++ (codes ":" ++ seconds)))) refl
    (both_plain hours (codes ":" ++ (minutes ++ (codes ":" ++ seconds))) (two_plain (second / 3600) (omega arith))
    (both_plain (codes ":") (minutes ++ (codes ":" ++ seconds)) refl
    (both_plain minutes (codes ":" ++ seconds) (two_plain (second / 60 % 60) (omega arith))
    (both_plain (codes ":") seconds refl (two_plain (second % 60) (omega arith))))))

-- each byte is from `-` to `9`, so that it is plain, and stands in JSON as it is
abbrev AreFigures : List ℕ → Type 0
AreFigures text = AllByRecursion (λ byte. (45 ≤ byte) × (byte < 58)) text

in_json : (text : List ℕ) → AreFigures text → IsPlain (escape text)
in_json [] figures = refl
in_json (byte ∷ text) figures =
    let same : escape_byte byte ≡ byte ∷ [] = escape_byte_plain byte (λ e. omega (arith, e, figures.0.0, figures.0.1)) (λ e. omega (arith, e, figures.0.1)) (omega (arith, figures.0.0)) in
    both_plain (escape_byte byte) (escape text) (rw same (one_plain byte figures.0.0 figures.0.1 [] refl)) (in_json text figures.1)

both_figures : (xs ys : List ℕ) → AreFigures xs → AreFigures ys → AreFigures (xs ++ ys)
both_figures [] ys first second = second
both_figures (x ∷ xs) ys first second = (first.0, both_figures xs ys first.1 second)

two_figures : (n : ℕ) → n < 100 → AreFigures (two_digits n)
two_figures n few = ((omega arith, omega arith), ((omega arith, omega arith), tt))

dash : AreFigures (codes "-")
dash = ((omega arith, omega arith), tt)

short_figures : (date : CivilDate) → IsShort date → AreFigures (date_text date)
short_figures date short =
    let year : date.year < 10000 = short.year in
    let month : date.month ≤ 12 = short.month in
    let day : date.day ≤ 31 = short.day in
    let years = two_digits (date.year / 100) ++ two_digits (date.year % 100) in
    both_figures (years ++ codes "-" ++ two_digits date.month ++ codes "-") (two_digits date.day)
    (both_figures (years ++ codes "-" ++ two_digits date.month) (codes "-")
    (both_figures (years ++ codes "-") (two_digits date.month)
    (both_figures years (codes "-")
    (both_figures (two_digits (date.year / 100)) (two_digits (date.year % 100)) (two_figures (date.year / 100) (omega arith)) (two_figures (date.year % 100) (omega arith)))
    dash)
    (two_figures date.month (omega arith)))
    dash)
    (two_figures date.day (omega arith))

at_day : (ds : List CivilDate) (n : ℕ) → AllByRecursion IsShort ds → AreFigures (option_map_or date_text (slice_get ds n) [])
at_day [] n h = tt
at_day (d ∷ ds) zero h = short_figures d h.0
at_day (d ∷ ds) (suc n) h = at_day ds n h.1

pub date_plain : (day : ℕ) → IsPlain (unterminated_date day)
unfolding unterminated_date
date_plain day = both_plain (34 ∷ []) (escape (option_map_or date_text (date_of_day day) [])) refl (in_json (option_map_or date_text (date_of_day day) []) (at_day dates day dates_short))
