-- One element more of a list.
use Rattle.std.proofs.Common.{◌≡◌, ◌∙◌, ℕ, ◌+◌, ◌<◌, List, [], ◌∷◌, ◌++◌, ap, append-nil, get_or, length, sym, take}
use Rattle.std.specs.List.{flat_map}
use Rattle.std.proofs.lemmas.Grind.{flat_map-append}
use Rattle.std.proofs.lemmas.List.{take_more}

pub flat_map_take-more : {A : Type 0} (f : A → List ℕ) (xs : List A) (i : ℕ) (x : A) → i < length xs → x ≡ get_or xs i x
    → flat_map f (take i xs) ++ f x ≡ flat_map f (take (i + 1) xs)
flat_map_take-more f xs i x below is =
    ap (λ (ws : List ℕ). flat_map f (take i xs) ++ ws) (sym (append-nil (f x)))
    ∙ ap (λ y. flat_map f (take i xs) ++ (f y ++ [])) is
    ∙ sym (flat_map-append f (take i xs) (get_or xs i x ∷ []))
    ∙ sym (ap (flat_map f) (take_more xs i x below))
