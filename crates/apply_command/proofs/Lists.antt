-- Lists, one item at a time.
use Rattle.std.proofs.Common.{◌≡◌, ◌<◌, ◌≤◌, ◌+◌, ◌++◌, ◌&&◌, ℕ, Bool, true, List, [], ◌∷◌, get_or, length, map, take, refl, sym, ap, ap₂, ◌∙◌, append_assoc}
use Rattle.std.specs.Prelude.{flat_map}
use Rattle.std.specs.List.{concat, list_all}
use Rattle.std.proofs.lemmas.List.{map_more, take_all}
use Rattle.std.proofs.lemmas.List.Folds.{list_all-append}

-- pieces joined, one after the other
pub concat_of_pieces : {X : Type 0} (f : X → List ℕ) (xs : List X) → concat (map f xs) ≡ flat_map f xs
concat_of_pieces f [] = refl
concat_of_pieces f (x ∷ xs) = ap (λ l. f x ++ l) (concat_of_pieces f xs)

module _ {X A : Type 0} (f : X → A) (before : List A) (xs : List X) where
  -- one item more
  pub one_more : (i : ℕ) (x : X) (old new : List A) → i < length xs → x ≡ get_or xs i x → old ≡ before ++ map f (take i xs) → new ≡ old ++ f x ∷ []
      → new ≡ before ++ map f (take (i + 1) xs)
  one_more i x old new few is so_far grown =
      grown ∙ ap (λ (o : List A). o ++ f x ∷ []) so_far ∙ append_assoc before (map f (take i xs)) (f x ∷ [])
      ∙ ap (λ (l : List A). before ++ l) (ap (λ (y : X). map f (take i xs) ++ f y ∷ []) is ∙ sym (map_more f xs i x few))

  -- none is left
  pub all_items : (i : ℕ) (new : List A) → length xs ≤ i → new ≡ before ++ map f (take i xs) → new ≡ before ++ map f xs
  all_items i new past so_far = so_far ∙ ap (λ (ys : List X). before ++ map f ys) (take_all i xs past)

-- a test that all pass, with one more that passes
pub all_more : {X : Type 0} (p : X → Bool) (xs new : List X) (x : X) → new ≡ xs ++ x ∷ [] → p x ≡ true → list_all p xs ≡ true → list_all p new ≡ true
all_more p xs new x grown one all = ap (list_all p) grown ∙ list_all-append p xs (x ∷ []) ∙ ap₂ (λ a b. a && (b && true)) all one
