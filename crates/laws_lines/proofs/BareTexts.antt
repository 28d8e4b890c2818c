-- Numbers and timestamps stand in a JSON string as they are.
use Rattle.std.proofs.Common.{◌≡◌, ℕ, zero, suc, ◌+◌, ◌/◌, ◌%◌, ◌<◌, ◌≤◌, ◌==◌, List, [], ◌∷◌, ◌++◌, codes, cond, decimal, IsUtf8, nat_lt, slice_get, Bool, true, false, refl, ap₂, ◌∙◌, arith, le-leb, leb-true, lt-ltb, ltb-true}
use Rattle.std.specs.Prelude.{◌&&◌, nat_le}
use Rattle.std.specs.Fmt.{digit_glyph, digits, digits_onto}
use Rattle.std.specs.List.{AllByRecursion, list_all}
use Rattle.std.specs.Option.{option_map_or}
use Rattle.std.proofs.lemmas.Bool.{and_parts}
use Rattle.std.proofs.lemmas.List.Folds.{list_all-append}
use Rattle.std.proofs.lemmas.Str.{IsUtf8-append, IsUtf8-from_ascii, IsUtf8-nil}
use Rattle.std.proofs.lemmas.Str.Ascii.{IsAscii-cons, IsAscii-nil}
use Rattle.json.specs.Print.{escape}
use Rattle.json.proofs.Printed.Strings.{escape_byte_plain}
use Rattle.apply_text.specs.Calendar.{CivilDate, date_of_day, dates}
use Rattle.apply_text.specs.UtcTimestamp.{date_text, timestamp_text, time_text, two_digits}
use Rattle.apply_text.proofs.ShortDates.{IsShort, dates_short}
use Rattle.apply_text_terraform.specs.UtcTimestamp.{precise_timestamp_text}

-- a dash, a dot, a digit, a colon or a capital letter
abbrev pub is_bare : ℕ → Bool
is_bare byte = nat_le 45 byte && nat_lt byte 92

abbrev pub IsBare : List ℕ → Type 0
IsBare text = list_all is_bare text ≡ true

both_bare : (xs ys : List ℕ) → IsBare xs → IsBare ys → IsBare (xs ++ ys)
both_bare xs ys first second = list_all-append is_bare xs ys ∙ ap₂ (λ a b. a && b) first second

one_bare : (byte : ℕ) → 45 ≤ byte → byte < 92 → (rest : List ℕ) → IsBare rest → IsBare (byte ∷ rest)
one_bare byte least most rest bare = ap₂ (λ a b. a && b) (ap₂ (λ a b. a && b) (le-leb 45 byte least) (lt-ltb byte 92 most)) bare

-- ---- such a text as it is

escaped_bare : (text : List ℕ) → IsBare text → escape text ≡ text
escaped_bare [] bare = refl
escaped_bare (byte ∷ text) bare =
    let parts = and_parts (is_bare byte) (list_all is_bare text) bare in
    let ends = and_parts (nat_le 45 byte) (nat_lt byte 92) parts.0 in
    let least : 45 ≤ byte = leb-true 45 byte ends.0 in
    let most : byte < 92 = ltb-true byte 92 ends.1 in
    ap₂ (λ (a b : List ℕ). a ++ b) (escape_byte_plain byte (λ e. omega (arith, e, least)) (λ e. omega (arith, e, most)) (omega (arith, least))) (escaped_bare text parts.1)

pub bare_utf8 : (text : List ℕ) → IsBare text → IsUtf8 text
bare_utf8 [] bare = IsUtf8-nil
bare_utf8 (byte ∷ text) bare =
    let parts = and_parts (is_bare byte) (list_all is_bare text) bare in
    let ends = and_parts (nat_le 45 byte) (nat_lt byte 92) parts.0 in
    let most : byte < 92 = ltb-true byte 92 ends.1 in
    IsUtf8-append (byte ∷ []) text (IsUtf8-from_ascii (byte ∷ []) (IsAscii-cons byte [] (omega (arith, most)) IsAscii-nil)) (bare_utf8 text parts.1)

-- ---- numbers

glyph_bare : (d : ℕ) → d < 10 → (rest : List ℕ) → IsBare rest → IsBare (digit_glyph false d ∷ rest)
glyph_bare d few rest bare = rw (lt-ltb d 10 few) (one_bare (48 + d) (omega arith) (omega (arith, few)) rest bare)

digits_bare : (k n : ℕ) (acc : List ℕ) → IsBare acc → IsBare (digits_onto k 10 false n acc)
digits_bare zero n acc bare = bare
digits_bare (suc k) n acc bare =
    let more : IsBare (digit_glyph false (n % 10) ∷ acc) = glyph_bare (n % 10) (omega arith) acc bare in
    of_test (n / 10 == 0) more (digits_bare k (n / 10) (digit_glyph false (n % 10) ∷ acc) more)
  where
    of_test : (b : Bool) → IsBare (digit_glyph false (n % 10) ∷ acc) → IsBare (digits_onto k 10 false (n / 10) (digit_glyph false (n % 10) ∷ acc))
        → IsBare (cond b (digit_glyph false (n % 10) ∷ acc) (digits_onto k 10 false (n / 10) (digit_glyph false (n % 10) ∷ acc)))
    of_test true one others = one
    of_test false one others = others

decimal_bare : (n : ℕ) → IsBare (decimal n)
unfolding digits
decimal_bare n = digits_bare 64 n [] refl

pub decimal_escaped : (n : ℕ) → escape (decimal n) ≡ decimal n
decimal_escaped n = escaped_bare (decimal n) (decimal_bare n)

pub decimal_utf8 : (n : ℕ) → IsUtf8 (decimal n)
decimal_utf8 n = bare_utf8 (decimal n) (decimal_bare n)

-- ---- times

-- two digits before others; dashes and colons need no escape
two_bare : (n : ℕ) → n < 100 → (rest : List ℕ) → IsBare rest → IsBare (two_digits n ++ rest)
two_bare n few rest bare = one_bare (48 + n / 10) (omega arith) (omega arith) ((48 + n % 10) ∷ rest) (one_bare (48 + n % 10) (omega arith) (omega arith) rest bare)

date_bare : (date : CivilDate) → IsShort date → IsBare (date_text date)
date_bare date short =
    let year : date.year < 10000 = short.year in
    let month : date.month ≤ 12 = short.month in
    let day : date.day ≤ 31 = short.day in
    let days = codes "-" ++ two_digits date.day in
    let months = codes "-" ++ (two_digits date.month ++ days) in
    two_bare (date.year / 100) (omega arith) (two_digits (date.year % 100) ++ months)
    (two_bare (date.year % 100) (omega arith) months (two_bare date.month (omega arith) days (two_bare date.day (omega arith) [] refl)))

at_day : (ds : List CivilDate) (n : ℕ) → AllByRecursion IsShort ds → IsBare (option_map_or date_text (slice_get ds n) [])
at_day [] n h = refl
at_day (d ∷ ds) zero h = date_bare d h.0
at_day (d ∷ ds) (suc n) h = at_day ds n h.1

time_bare : (second : ℕ) → second < 86400 → IsBare (time_text second)
time_bare second few =
    let seconds = codes ":" ++ two_digits (second % 60) in
    let minutes = codes ":" ++ (two_digits (second / 60 % 60) ++ seconds) in
    two_bare (second / 3600) (omega arith) minutes (two_bare (second / 60 % 60) (omega arith) seconds (two_bare (second % 60) (omega arith) [] refl))

second_bare : (seconds : ℕ) → IsBare (option_map_or date_text (date_of_day (seconds / 86400)) [] ++ codes "T" ++ time_text (seconds % 86400))
second_bare seconds =
    let date = option_map_or date_text (date_of_day (seconds / 86400)) [] in
    both_bare (date ++ codes "T") (time_text (seconds % 86400)) (both_bare date (codes "T") (at_day dates (seconds / 86400) dates_short) refl) (time_bare (seconds % 86400) (omega arith))

pub moment_bare : (seconds : ℕ) → IsBare (timestamp_text seconds)
unfolding timestamp_text
moment_bare seconds = both_bare (option_map_or date_text (date_of_day (seconds / 86400)) [] ++ codes "T" ++ time_text (seconds % 86400)) (codes "Z") (second_bare seconds) refl

-- a timestamp with its decimals
pub fine_bare : (seconds : ℕ) → IsBare (precise_timestamp_text seconds)
unfolding precise_timestamp_text
fine_bare seconds = both_bare (option_map_or date_text (date_of_day (seconds / 86400)) [] ++ codes "T" ++ time_text (seconds % 86400)) (codes ".000000Z") (second_bare seconds) refl

pub moment_escaped : (seconds : ℕ) → escape (precise_timestamp_text seconds) ≡ precise_timestamp_text seconds
moment_escaped seconds = escaped_bare (precise_timestamp_text seconds) (fine_bare seconds)
