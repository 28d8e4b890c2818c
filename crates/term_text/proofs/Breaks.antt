-- Where texts are broken.
use Rattle.std.proofs.Common.{◌≡◌, ◌≢◌, ◌∙◌, ◌+◌, ◌-◌, ◌<◌, ◌≤◌, ◌++◌, ◌∷◌, [], ℕ, zero, suc, List, None, Some, true, false, ap, append_assoc, arith, get_or, length, length-take-le, max, refl, sym, take}
use Rattle.std.proofs.lemmas.Bool.{lt-leb}
use Rattle.std.proofs.lemmas.Bool.Decides.{nat_tests}
use Rattle.std.proofs.lemmas.List.Sums.{sum_by-take-le}
use Rattle.std.specs.Prelude.{◌==◌, if◌then◌else◌, nat_lt}
use Rattle.term_text.specs.Breaking.{behind_piece, break_place, last_blank, piece_len, pieces_within}
use Rattle.term_text.specs.Columns.{column_count, columns_of}
use Rattle.term_text.specs.Fitting.{front_within, is_blank, without_blanks}
use Rattle.term_text.proofs.Fits.{front_is}

pub last_blank-none : (least place : ℕ) (text : List ℕ) → place ≤ least → last_blank least place text ≡ None
last_blank-none least zero text low = refl
last_blank-none least (suc place) text low =
    let yes : nat_lt place least ≡ true = grind (arith, nat_tests) in
    rw yes refl

pub last_blank-some : (least place : ℕ) (text : List ℕ) → least < place → get_or text (place - 1) 0 ≡ 32 → last_blank least place text ≡ Some (place - 1)
last_blank-some least zero text high is = absurd (omega arith)
last_blank-some least (suc place) text high is =
    let before : suc place - 1 ≡ place = omega arith in
    let no : nat_lt place least ≡ false = grind (arith, nat_tests) in
    let blank : is_blank (get_or text place 0) ≡ true = grind (arith, nat_tests) in
    rw (before, no, blank) refl

pub last_blank-less : (least place : ℕ) (text : List ℕ) → least < place → get_or text (place - 1) 0 ≢ 32 → last_blank least place text ≡ last_blank least (place - 1) text
last_blank-less least zero text high is = absurd (omega arith)
last_blank-less least (suc place) text high is =
    let before : suc place - 1 ≡ place = omega arith in
    let no : nat_lt place least ≡ false = grind (arith, nat_tests) in
    let blank : is_blank (get_or text place 0) ≡ false = grind (arith, nat_tests) in
    rw (before, no, blank) refl

-- ---- the first piece

-- the place of a text that does not fit, by how many of its characters do
pub piece_len-cut : (columns n : ℕ) (text : List ℕ) → n ≤ length text → columns_of (take n text) ≤ columns
    → (n < length text → columns < columns_of (take (n + 1) text)) → n ≢ length text → piece_len columns text ≡ break_place (max n 1) text
piece_len-cut columns n text within fits full other =
    let below : n < length text = omega (arith, within, other) in
    let wide : columns < columns_of text = omega (arith, full below, sum_by-take-le column_count text (n + 1)) in
    let front : front_within columns text ≡ take n text = front_is columns text n within fits full in
    let count : length (front_within columns text) ≡ n = ap length front ∙ length-take-le n text within in
    rw (lt-leb (columns_of text) columns wide) (ap (λ k. break_place (max k 1) text) count)

-- ---- the pieces

-- one more piece, and some are left
pub pieces-more : (columns turns : ℕ) (text piece rest : List ℕ) (before after whole : List (List ℕ))
    → length text < turns → before ++ pieces_within turns columns text ≡ whole
    → piece ≡ without_blanks (take (piece_len columns text) text) → rest ≡ behind_piece columns text → after ≡ before ++ piece ∷ []
    → 0 < length rest → length rest < length text
    → (left : ℕ) × (length rest < left) × (after ++ pieces_within left columns rest ≡ whole)
pieces-more columns zero text piece rest before after whole few so_far piece_is rest_is grown some less = absurd (omega arith)
pieces-more columns (suc turns) text piece rest before after whole few so_far piece_is rest_is grown some less =
    let there : 0 < length (behind_piece columns text) = omega (arith, some, ap length rest_is) in
    let no : length (behind_piece columns text) == 0 ≡ false = grind (arith, nat_tests) in
    let step : pieces_within (suc turns) columns text ≡ piece ∷ pieces_within turns columns rest =
    rw (piece_is, rest_is) (ap (λ b. without_blanks (take (piece_len columns text) text) ∷ (if b then [] else pieces_within turns columns (behind_piece columns text))) no) in (
      turns,
      omega arith,
      ap (λ l. l ++ pieces_within turns columns rest) grown ∙ append_assoc before (piece ∷ []) (pieces_within turns columns rest)
          ∙ ap (λ l. before ++ l) (sym step) ∙ so_far,
    )
