-- Lines of texts, byte by byte.
use Rattle.std.proofs.Common.{⊎_elim, ◌≡◌, ◌≢◌, ◌∙◌, ◌+◌, ◌-◌, ◌<◌, ◌≤◌, ◌++◌, ◌∷◌, [], ℕ, zero, suc, List, true, false, ap, append_assoc, append-nil, arith, drop, get_or, length, length-drop, refl, sym, take}
use Rattle.std.proofs.lemmas.Bool.Decides.{nat_tests}
use Rattle.std.proofs.lemmas.Bool.{cases_Bool}
use Rattle.std.proofs.lemmas.List.Sums.{suffix_len-take_no}
use Rattle.std.specs.List.{suffix_len}
use Rattle.std.proofs.lemmas.List.{at_drop_all, at_drop_more, get_or-drop, take_more, take_rest}
use Rattle.std.specs.Prelude.{◌&&◌, ◌==◌, if◌then◌else◌}
use Rattle.term_text.specs.LineTexts.{colour_size, is_parameter, size_through, tabbed_after, to_tab_stop, uncoloured_after, is_empty_line, with_line, without_empty_end, without_empty_front}
use Rattle.term_text.specs.Shown.{shown_text}

-- ---- sequences of colours

pub size_through-more : (size place : ℕ) (bytes : List ℕ) → place < length bytes → get_or bytes place 0 ≢ 109 → is_parameter (get_or bytes place 0) ≡ true
    → size_through size (drop place bytes) ≡ size_through (size + 1) (drop (place + 1) bytes)
size_through-more size place bytes below other is =
    let no : get_or bytes place 0 == 109 ≡ false = grind (arith, nat_tests) in
    at_drop_more (size_through size) bytes place 0 below ∙ rw (no, is) refl

pub size_through-none : (size place : ℕ) (bytes : List ℕ) → place < length bytes → get_or bytes place 0 ≢ 109 → is_parameter (get_or bytes place 0) ≡ false
    → size_through size (drop place bytes) ≡ 0
size_through-none size place bytes below other out =
    let no : get_or bytes place 0 == 109 ≡ false = grind (arith, nat_tests) in
    at_drop_more (size_through size) bytes place 0 below ∙ rw (no, out) refl

-- ---- bytes without them

-- a byte that belongs to a sequence before it
pub uncoloured-passed : (passed place : ℕ) (bytes before whole : List ℕ) → place < length bytes → passed ≢ 0
    → before ++ uncoloured_after passed (drop place bytes) ≡ whole → before ++ uncoloured_after (passed - 1) (drop (place + 1) bytes) ≡ whole
unfolding uncoloured_after
uncoloured-passed zero place bytes before whole below some so_far = absurd (some refl)
uncoloured-passed (suc passed) place bytes before whole below some so_far =
    let less : suc passed - 1 ≡ passed = omega arith in
    ap (λ k. before ++ uncoloured_after k (drop (place + 1) bytes)) less ∙ ap (λ l. before ++ l) (sym (at_drop_more (uncoloured_after (suc passed)) bytes place 0 below)) ∙ so_far

-- a byte that starts a sequence
pub uncoloured-begun : (passed left place : ℕ) (bytes before whole : List ℕ) → place < length bytes → passed ≡ 0
    → left ≡ colour_size (drop place bytes) → left ≢ 0
    → before ++ uncoloured_after passed (drop place bytes) ≡ whole → before ++ uncoloured_after (left - 1) (drop (place + 1) bytes) ≡ whole
unfolding uncoloured_after
uncoloured-begun passed left place bytes before whole below none is some so_far =
    let same : colour_size (get_or bytes place 0 ∷ drop (place + 1) bytes) ≡ left = sym (at_drop_more colour_size bytes place 0 below) ∙ sym is in
    let no : left == 0 ≡ false = grind (arith, nat_tests) in
    let step : uncoloured_after 0 (drop place bytes) ≡ uncoloured_after (left - 1) (drop (place + 1) bytes) =
    at_drop_more (uncoloured_after 0) bytes place 0 below ∙ rw (same, no) refl in
    ap (λ l. before ++ l) (sym step) ∙ ap (λ k. before ++ uncoloured_after k (drop place bytes)) (sym none) ∙ so_far

-- a byte that belongs to none
pub uncoloured-kept : (passed left place : ℕ) (bytes before after whole : List ℕ) → place < length bytes → passed ≡ 0
    → left ≡ colour_size (drop place bytes) → left ≡ 0 → after ≡ before ++ get_or bytes place 0 ∷ []
    → before ++ uncoloured_after passed (drop place bytes) ≡ whole → after ++ uncoloured_after left (drop (place + 1) bytes) ≡ whole
unfolding uncoloured_after
uncoloured-kept passed left place bytes before after whole below none is plain grown so_far =
    let same : colour_size (get_or bytes place 0 ∷ drop (place + 1) bytes) ≡ 0 = sym (at_drop_more colour_size bytes place 0 below) ∙ sym is ∙ plain in
    let rest = uncoloured_after 0 (drop (place + 1) bytes) in
    let step : uncoloured_after 0 (drop place bytes) ≡ get_or bytes place 0 ∷ rest = at_drop_more (uncoloured_after 0) bytes place 0 below ∙ rw same refl in
    ap (λ k. after ++ uncoloured_after k (drop (place + 1) bytes)) plain ∙ ap (λ l. l ++ rest) grown ∙ append_assoc before (get_or bytes place 0 ∷ []) rest
    ∙ ap (λ l. before ++ l) (sym step) ∙ ap (λ k. before ++ uncoloured_after k (drop place bytes)) (sym none) ∙ so_far

pub uncoloured-end : (passed place : ℕ) (bytes before : List ℕ) → length bytes ≤ place → before ++ uncoloured_after passed (drop place bytes) ≡ before
unfolding uncoloured_after
uncoloured-end passed place bytes before past = ap (λ l. before ++ l) (at_drop_all (uncoloured_after passed) bytes place past) ∙ append-nil before

-- ---- tabs

-- a tab
pub tabbed-tab : (place : ℕ) (bytes part before after whole : List ℕ) → place < length bytes → get_or bytes place 0 ≡ 9
    → after ≡ before ++ to_tab_stop (shown_text part) → before ++ tabbed_after part (drop place bytes) ≡ whole
    → after ++ tabbed_after (take (place + 1 - (place + 1)) (drop (place + 1) bytes)) (drop (place + 1) bytes) ≡ whole
unfolding tabbed_after
tabbed-tab place bytes part before after whole below tab grown so_far =
    let rest = drop (place + 1) bytes in
    let none : take (place + 1 - (place + 1)) rest ≡ [] = let zero : place + 1 - (place + 1) ≡ 0 = omega arith in ap (λ k. take k rest) zero in
    let is : get_or bytes place 0 == 9 ≡ true = grind (arith, nat_tests) in
    let step : tabbed_after part (drop place bytes) ≡ to_tab_stop (shown_text part) ++ tabbed_after [] rest =
    at_drop_more (tabbed_after part) bytes place 0 below ∙ rw is refl in
    ap (λ p. after ++ tabbed_after p rest) none ∙ ap (λ l. l ++ tabbed_after [] rest) grown ∙ append_assoc before (to_tab_stop (shown_text part)) (tabbed_after [] rest)
    ∙ ap (λ l. before ++ l) (sym step) ∙ so_far

-- another byte
pub tabbed-more : (start place : ℕ) (bytes : List ℕ) → start ≤ place → place < length bytes → get_or bytes place 0 ≢ 9
    → tabbed_after (take (place - start) (drop start bytes)) (drop place bytes) ≡ tabbed_after (take (place + 1 - start) (drop start bytes)) (drop (place + 1) bytes)
unfolding tabbed_after
tabbed-more start place bytes low below other =
    let no : get_or bytes place 0 == 9 ≡ false = grind (arith, nat_tests) in
    let part = take (place - start) (drop start bytes) in
    let next : place + 1 - start ≡ place - start + 1 = omega arith in
    let here : start + (place - start) ≡ place = omega arith in
    let long : place - start < length (drop start bytes) = omega (arith, length-drop start bytes) in
    let more : take (place + 1 - start) (drop start bytes) ≡ part ++ get_or bytes place 0 ∷ [] =
    ap (λ k. take k (drop start bytes)) next ∙ take_more (drop start bytes) (place - start) 0 long
    ∙ ap (λ x. part ++ x ∷ []) (get_or-drop start bytes (place - start) 0 ∙ ap (λ k. get_or bytes k 0) here) in
    at_drop_more (tabbed_after part) bytes place 0 below ∙ rw no (ap (λ p. tabbed_after p (drop (place + 1) bytes)) (sym more))

-- no byte is left
pub tabbed-end : (start place : ℕ) (bytes before after whole : List ℕ) → place ≡ length bytes
    → after ≡ before ++ shown_text (take (length bytes - start) (drop start bytes))
    → before ++ tabbed_after (take (place - start) (drop start bytes)) (drop place bytes) ≡ whole → after ≡ whole
unfolding tabbed_after
tabbed-end start place bytes before after whole all grown so_far =
    let part = take (place - start) (drop start bytes) in
    let last : tabbed_after part (drop place bytes) ≡ shown_text part = at_drop_all (tabbed_after part) bytes place (omega (arith, all)) in
    grown ∙ ap (λ n. before ++ shown_text (take (n - start) (drop start bytes))) (sym all) ∙ ap (λ l. before ++ l) (sym last) ∙ so_far

-- ---- empty lines

-- one more line after those from the first that is not empty
pub empty_front-push : (lines : List (List ℕ)) (line : List ℕ) → without_empty_front (lines ++ line ∷ []) ≡ with_line (without_empty_front lines) line
empty_front-push [] line =
    ⊎_elim (λ (empty : is_empty_line line ≡ true). rw empty refl) (λ (some : is_empty_line line ≡ false). rw some refl) (cases_Bool (is_empty_line line))
empty_front-push (first ∷ lines) line =
    ⊎_elim (λ (empty : is_empty_line first ≡ true). rw empty (empty_front-push lines line))
    (λ (some : is_empty_line first ≡ false).
    let no : length (first ∷ lines) == 0 ≡ false = let long : length (first ∷ lines) ≢ 0 = λ is. omega (arith, is) in grind (arith, nat_tests) in
    rw some (sym (ap (λ b. if b && is_empty_line line then [] else (first ∷ lines) ++ line ∷ []) no))) (cases_Bool (is_empty_line first))

-- the place after the last line that is not empty
pub empty_end-at : (len : ℕ) (lines : List (List ℕ)) → len ≤ length lines
    → len + suffix_len is_empty_line lines ≡ length lines + suffix_len is_empty_line (take len lines)
    → (0 < len → is_empty_line (get_or lines (len - 1) []) ≡ false) → take len lines ≡ without_empty_end lines
empty_end-at zero lines within counted last =
    let none : suffix_len is_empty_line (take 0 lines) ≡ 0 = refl in
    let is : length lines - suffix_len is_empty_line lines ≡ 0 = omega (arith, counted, none) in
    ap (λ k. take k lines) (sym is)
empty_end-at (suc len) lines within counted last =
    let none : suffix_len is_empty_line (take (suc len) lines) ≡ 0 = suffix_len-take_no is_empty_line lines (suc len) [] (omega arith) within (last (omega arith)) in
    let is : length lines - suffix_len is_empty_line lines ≡ suc len = omega (arith, counted, none) in
    ap (λ k. take k lines) (sym is)
