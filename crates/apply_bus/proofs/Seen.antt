-- A loop over a list that has come to its end has seen all of it.
use Rattle.std.proofs.Common.{◌≡◌, ℕ, List, [], ◌∷◌, ◌++◌, length, append-nil, sym, refl, ap, ◌∙◌, arith}

nothing_left : {X : Type 0} → (rest : List X) → length rest ≡ 0 → rest ≡ []
nothing_left [] h = refl
nothing_left (x ∷ rest) h = absurd (omega arith)

pub all_seen : {X : Type 0} → (seen rest all : List X) (left : ℕ) → seen ++ rest ≡ all → left ≡ length rest → left ≡ 0 → seen ≡ all
all_seen seen rest all left whole count none = sym (append-nil seen) ∙ ap (λ l. seen ++ l) (sym (nothing_left rest (sym count ∙ none))) ∙ whole
