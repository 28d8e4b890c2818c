-- Diagnostics of no step, written one after the other.
use Rattle.std.proofs.Common.{◌≡◌, ◌∙◌, ◌<◌, ◌≤◌, ◌+◌, ℕ, List, [], ◌∷◌, ◌++◌, length, get_or, take, sym, ap}
use Rattle.std.specs.Prelude.{flat_map}
use Rattle.std.proofs.lemmas.List.{flat_map_more, take_all, take_more}

module _ {X : Type 0} (accepted : X → List ℕ) (before : List ℕ) (xs : List X) where
  -- one more
  pub one_more : (i : ℕ) (x : X) (old new : List ℕ) → i < length xs → x ≡ get_or xs i x → old ≡ before ++ flat_map accepted (take i xs) → new ≡ old ++ accepted x
      → new ≡ before ++ flat_map accepted (take (i + 1) xs)
  one_more i x old new few is so_far grown =
      grown ∙ ap (λ (o : List ℕ). o ++ accepted x) so_far
      ∙ flat_map_more accepted before (take i xs) x
      ∙ ap (λ (ys : List X). before ++ flat_map accepted ys) (ap (λ (y : X). take i xs ++ y ∷ []) is ∙ sym (take_more xs i x few))

  -- none is left
  pub all_texts : (i : ℕ) (new : List ℕ) → length xs ≤ i → new ≡ before ++ flat_map accepted (take i xs) → new ≡ before ++ flat_map accepted xs
  all_texts i new past so_far = so_far ∙ ap (λ (ys : List X). before ++ flat_map accepted ys) (take_all i xs past)
