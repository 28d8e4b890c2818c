-- The first line of bytes, and the lines after it.
use Rattle.std.proofs.Common.{◌≡◌, ℕ, List, [], ◌∷◌, eqb, true, false, refl, ap, ⊎_elim}
use Rattle.std.specs.Io.BufRead.{drop_through}
use Rattle.std.proofs.lemmas.Bool.{cases_Bool}
use Rattle.stream_lines.specs.Cut.{first_line, cut_lines, onto_first}

pub cut_first : (x : ℕ) (xs : List ℕ) → cut_lines (x ∷ xs) ≡ first_line (x ∷ xs) ∷ cut_lines (drop_through 10 (x ∷ xs))
cut_first x [] = ⊎_elim (λ (yes : eqb x 10 ≡ true). rw yes refl) (λ (no : eqb x 10 ≡ false). rw no refl) (cases_Bool (eqb x 10))
cut_first x (y ∷ ys) =
    ⊎_elim (λ (yes : eqb x 10 ≡ true). rw yes refl)
    (λ (no : eqb x 10 ≡ false).
    let rest = cut_first y ys in
    let put = ap (onto_first x) rest in
    rw no put)
    (cases_Bool (eqb x 10))
