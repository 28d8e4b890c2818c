-- Texts without the blanks at their ends.
use Rattle.std.proofs.Common.{◌≡◌, ◌∙◌, ◌≢◌, ℕ, ◌-◌, ◌≤◌, ◌∷◌, [], ◌++◌, List, true, false, zero, suc, ap, refl, sym, get_or, length, take, replicate, eqb-true, ⊎_elim, length-take-le, get_or-take, arith}
use Rattle.std.specs.Prelude.{◌&&◌, if◌then◌else◌}
use Rattle.std.specs.List.{list_all}
use Rattle.std.proofs.lemmas.Bool.{cases_Bool}
use Rattle.std.proofs.lemmas.List.Folds.{list_all-append}
use Rattle.std.proofs.lemmas.List.Sums.{AllPass-from_list_all}
use Rattle.term_text.specs.Fitting.{is_blank, without_blanks}

all_blank : (n : ℕ) → list_all is_blank (replicate n 32) ≡ true
all_blank zero = refl
all_blank (suc n) = all_blank n

none_left : (cs : List ℕ) → list_all is_blank cs ≡ true → without_blanks cs ≡ []
none_left [] all = refl
none_left (c ∷ cs) all = rw all refl

-- a text whose last character is no blank is not blank
some_left : (cs : List ℕ) (n : ℕ) → 1 ≤ length cs → get_or cs (length cs - 1) 0 ≢ 32 → list_all is_blank (cs ++ replicate n 32) ≡ false
some_left cs n some last =
    ⊎_elim
    (λ (yes : list_all is_blank cs ≡ true).
    absurd (last (eqb-true _ _ (AllPass-from_list_all is_blank cs yes (length cs - 1) 0 (omega arith)))))
    (λ (out : list_all is_blank cs ≡ false). list_all-append is_blank cs (replicate n 32) ∙ ap (λ b. b && list_all is_blank (replicate n 32)) out)
    (cases_Bool (list_all is_blank cs))

-- only blanks are left out after it
kept : (front : List ℕ) (n : ℕ) → (1 ≤ length front → get_or front (length front - 1) 0 ≢ 32) → without_blanks (front ++ replicate n 32) ≡ front
kept [] n last = none_left (replicate n 32) (all_blank n)
kept (c ∷ cs) n last = rw (some_left (c ∷ cs) n (omega arith) (last (omega arith))) (ap (λ ds. c ∷ ds) (kept cs n (λ some. below cs some (last (omega arith)))))
  where
    below : (ds : List ℕ) → 1 ≤ length ds → get_or (c ∷ ds) (length (c ∷ ds) - 1) 0 ≢ 32 → get_or ds (length ds - 1) 0 ≢ 32
    below ds some out is =
        let next : length (c ∷ ds) - 1 ≡ suc (length ds - 1) = omega (arith, some) in
        out (ap (λ k. get_or (c ∷ ds) k 0) next ∙ is)

-- a text whose blanks were counted from its end
pub blanks_gone : (text : List ℕ) (len : ℕ) → len ≤ length text → text ≡ take len text ++ replicate (length text - len) 32
    → (1 ≤ len → get_or text (len - 1) 0 ≢ 32) → without_blanks text ≡ take len text
blanks_gone text len within is last =
    ap without_blanks is ∙ kept (take len text) (length text - len) (λ some.
    let long : length (take len text) ≡ len = length-take-le len text within in
    λ ends. last (omega (arith, some, long))
    (sym (get_or-take len text (len - 1) 0 (omega (arith, some, long))) ∙ ap (λ k. get_or (take len text) (k - 1) 0) (sym long) ∙ ends))

same_test : (cs : List ℕ) → list_all is_blank (without_blanks cs) ≡ list_all is_blank cs
same_test [] = refl
same_test (c ∷ cs) =
    ⊎_elim (λ (yes : list_all is_blank (c ∷ cs) ≡ true). rw yes refl)
    (λ (out : list_all is_blank (c ∷ cs) ≡ false). ap (list_all is_blank) (ap (λ b. if b then [] else c ∷ without_blanks cs) out) ∙ ap (λ b. is_blank c && b) (same_test cs))
    (cases_Bool (list_all is_blank (c ∷ cs)))

-- what has no blanks at its end loses none
pub twice : (text : List ℕ) → without_blanks (without_blanks text) ≡ without_blanks text
twice [] = refl
twice (c ∷ cs) =
    ⊎_elim (λ (yes : list_all is_blank (c ∷ cs) ≡ true). rw yes refl)
    (λ (out : list_all is_blank (c ∷ cs) ≡ false).
    let same : is_blank c && list_all is_blank (without_blanks cs) ≡ false = ap (λ b. is_blank c && b) (same_test cs) ∙ out in
    let is : without_blanks (c ∷ cs) ≡ c ∷ without_blanks cs = ap (λ b. if b then [] else c ∷ without_blanks cs) out in
    ap without_blanks is ∙ ap (λ b. if b then [] else c ∷ without_blanks (without_blanks cs)) same ∙ ap (λ ds. c ∷ ds) (twice cs) ∙ sym is)
    (cases_Bool (list_all is_blank (c ∷ cs)))

-- what is left is a front
pub take-without_blanks : (text : List ℕ) → take (length (without_blanks text)) text ≡ without_blanks text
take-without_blanks [] = refl
take-without_blanks (c ∷ cs) =
    ⊎_elim (λ (yes : list_all is_blank (c ∷ cs) ≡ true). rw yes refl)
    (λ (out : list_all is_blank (c ∷ cs) ≡ false). rw out (ap (λ ds. c ∷ ds) (take-without_blanks cs)))
    (cases_Bool (list_all is_blank (c ∷ cs)))
