-- The lines of a detail, one after another.
use Rattle.std.proofs.Common.{◌≡◌, ◌≢◌, ℕ, ◌+◌, ◌-◌, ◌<◌, ◌≤◌, List, [], ◌∷◌, ◌++◌, length, map, take, drop, get_or, suc, zero, refl, sym, ap, ap₂, ◌∙◌, arith, All, Vec, Global}
use Rattle.std.proofs.lemmas.Bool.{eq-eqb, ne_eqb}
use Rattle.std.proofs.lemmas.List.{append_assoc, length_push, map_push}
use Rattle.stream_lines.specs.Cut.{cut_lines, onto_first}
use Rattle.stream_timeline.specs.Details.{stored, trimmed_line}

cut_on : (b : ℕ) (bs : List ℕ) → (b ≡ 10 → ⊥) → cut_lines (b ∷ bs) ≡ onto_first b (cut_lines bs)
cut_on b bs other = rw (ne_eqb b 10 other) refl

cut_at_feed : (n : ℕ) (bs : List ℕ) → 0 < length bs → n ≤ length bs → All (λ b. b ≢ 10) (take n bs) → (n < length bs → get_or bs n 0 ≡ 10)
    → cut_lines bs ≡ take n bs ∷ cut_lines (drop (suc n) bs)
cut_at_feed n [] some l before feed = absurd (omega arith)
cut_at_feed zero (b ∷ bs) some l before feed = let same : b ≡ 10 = feed (omega arith) in rw (eq-eqb b 10 same) refl
cut_at_feed (suc zero) (b ∷ []) some l before feed = cut_on b [] (before 0 0 (omega arith))
cut_at_feed (suc (suc n)) (b ∷ []) some l before feed = absurd (omega arith)
cut_at_feed (suc n) (b ∷ (x ∷ xs)) some l before feed =
    let rest : cut_lines (x ∷ xs) ≡ take n (x ∷ xs) ∷ cut_lines (drop (suc n) (x ∷ xs)) =
    cut_at_feed n (x ∷ xs) (omega arith) (omega arith) (λ k d h. before (suc k) d (omega arith)) (λ h. feed (omega arith)) in
    cut_on b (x ∷ xs) (before 0 0 (omega arith)) ∙ ap (onto_first b) rest

abbrev pub stored_lines : ℕ → List (List ℕ) → List (List ℕ)
stored_lines n lines = map (λ line. stored (trimmed_line line)) (take n lines)

-- ---- one line more, while there is room

abbrev texts_of : List (Vec ℕ Global) → List (List ℕ)
texts_of xs = map (λ (line : Vec ℕ Global). line.items) xs

pub line_retained : (xs ys : List (Vec ℕ Global)) (x : Vec ℕ Global) (rest next line : List ℕ) (all : List (List ℕ)) → length xs < 10 → cut_lines rest ≡ line ∷ cut_lines next
    → x.items ≡ stored (trimmed_line line) → ys ≡ xs ++ x ∷ [] → texts_of xs ++ stored_lines (10 - length xs) (cut_lines rest) ≡ all
    → texts_of ys ++ stored_lines (10 - length ys) (cut_lines next) ≡ all
line_retained xs ys x rest next line all few cut is more before =
    let longer : length ys ≡ length xs + 1 = ap length more ∙ length_push xs x in
    let room : 10 - length xs ≡ suc (10 - length ys) = omega (arith, longer) in
    let texts : texts_of ys ≡ texts_of xs ++ stored (trimmed_line line) ∷ [] = ap texts_of more ∙ (map_push (λ (v : Vec ℕ Global). v.items) xs x ∙ ap (λ t. texts_of xs ++ t ∷ []) is) in
    let step : stored_lines (10 - length xs) (cut_lines rest) ≡ stored (trimmed_line line) ∷ stored_lines (10 - length ys) (cut_lines next) = ap₂ (λ (n : ℕ) (ls : List (List ℕ)). stored_lines n ls) room cut in
    ap (λ ts. ts ++ stored_lines (10 - length ys) (cut_lines next)) texts
    ∙ (append_assoc (texts_of xs) (stored (trimmed_line line) ∷ []) (stored_lines (10 - length ys) (cut_lines next)) ∙ (ap (λ ts. texts_of xs ++ ts) (sym step) ∙ before))

-- ---- and where there is none

pub line_left : (xs : List (Vec ℕ Global)) (rest next : List ℕ) (all : List (List ℕ)) → 10 ≤ length xs → texts_of xs ++ stored_lines (10 - length xs) (cut_lines rest) ≡ all
    → texts_of xs ++ stored_lines (10 - length xs) (cut_lines next) ≡ all
line_left xs rest next all full before =
    let none : 10 - length xs ≡ 0 = omega arith in
    ap (λ (n : ℕ). texts_of xs ++ stored_lines n (cut_lines next)) none ∙ (ap (λ (n : ℕ). texts_of xs ++ stored_lines n (cut_lines rest)) (sym none) ∙ before)

-- ---- the first line of what is left

pub first_cut : (n : ℕ) (rest next : List ℕ) → 0 < length rest → n ≤ length rest → All (λ b. b ≢ 10) (take n rest) → (n < length rest → get_or rest n 0 ≡ 10) → next ≡ drop (n + 1) rest
    → cut_lines rest ≡ take n rest ∷ cut_lines next
first_cut n rest next some bound before feed is =
    let same : suc n ≡ n + 1 = omega arith in
    cut_at_feed n rest some bound before feed ∙ ap (λ bs. take n rest ∷ cut_lines bs) (ap (λ (k : ℕ). drop k rest) same ∙ sym is)
