-- A list that grows by a value that may be missing.
use Rattle.std.proofs.Common.{◌≡◌, List, [], ◌∷◌, ◌++◌, Option, Some, None, sym, ap, append_assoc}
use Rattle.std.specs.List.{cons_option}
use Rattle.std.proofs.lemmas.List.{append-nil}

pub one_more : {A : Type 0} (xs : List A) (o : Option A) (rest : List A) → xs ++ cons_option o rest ≡ (xs ++ cons_option o []) ++ rest
one_more xs None rest = ap (λ ys. ys ++ rest) (sym (append-nil xs))
one_more xs (Some x) rest = sym (append_assoc xs (x ∷ []) rest)
