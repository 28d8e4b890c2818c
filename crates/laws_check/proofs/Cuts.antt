-- A text may be cut before and after an ASCII byte.
use Rattle.std.proofs.Common.{◌≡◌, ℕ, ◌+◌, ◌<◌, List, ◌∷◌, ◌++◌, IsUtf8, get_or, length, length-append, subst, arith}
use Rattle.std.proofs.Math.Seq.{drop-append-add, get_or-append_seam, take-append_seam}
use Rattle.std.proofs.lemmas.Str.{IsCharBoundary-after_ascii, IsCharBoundary-before_ascii, IsUtf8-drop, IsUtf8-take}

module _ (p : List ℕ) (x : ℕ) (xs : List ℕ) (text : IsUtf8 (p ++ x ∷ xs)) (low : x < 128) where
  inside : length p < length (p ++ x ∷ xs)
  inside = let both = length-append p (x ∷ xs) in omega arith

  low_there : get_or (p ++ x ∷ xs) (length p) 0 < 128
  low_there = let there : get_or (p ++ x ∷ xs) (length p) 0 ≡ x = get_or-append_seam p x xs 0 in omega arith

  pub before : IsUtf8 p
  before = subst IsUtf8 (take-append_seam p (x ∷ xs)) (IsUtf8-take (p ++ x ∷ xs) (length p) text (IsCharBoundary-before_ascii (p ++ x ∷ xs) (length p) inside low_there))

  pub after : IsUtf8 xs
  after = subst IsUtf8 (drop-append-add p (x ∷ xs) 1) (IsUtf8-drop (p ++ x ∷ xs) (length p + 1) text (IsCharBoundary-after_ascii (p ++ x ∷ xs) (length p) text inside low_there))
