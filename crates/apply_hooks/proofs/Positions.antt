-- A loop that looks for the first item that passes a test, over values that a list describes.
use Rattle.std.proofs.Common.{◌≡◌, ℕ, ◌+◌, ◌<◌, ◌≤◌, List, [], ◌∷◌, length, drop, map, get_or, not, cond, Bool, true, Some, None, position, refl, ap, sym, ◌∙◌}
use Rattle.std.specs.List.{position_or_len, position_from}
use Rattle.std.proofs.Math.Seq.{drop-cons}
use Rattle.std.proofs.lemmas.Iterator.Adapters.{position_from-zero}
use Rattle.std.proofs.lemmas.List.{drop_all, length-map}

position_or_len-map : {X Y : Type 0} (p : Y → Bool) (f : X → Y) (xs : List X) → position_or_len p (map f xs) ≡ position_or_len (λ x. p (f x)) xs
position_or_len-map p f [] = refl
position_or_len-map p f (x ∷ xs) = ap (λ n. cond (not (p (f x))) (1 + n) 0) (position_or_len-map p f xs)

position-map : {X Y : Type 0} (p : Y → Bool) (f : X → Y) (xs : List X) → position (λ x. p (f x)) xs ≡ position p (map f xs)
position-map p f xs = rw (position_or_len-map p f xs, length-map xs f) refl

-- The loop is at position i, and no earlier item passes. The search from there gives the same
-- answer as the search from the beginning. So an item at i that passes is the first one.
pub position-found : {X Y : Type 0} (p : Y → Bool) (f : X → Y) (xs : List X) (i : ℕ) (x : X) → i < length xs → x ≡ get_or xs i x → p (f x) ≡ true
    → position_from (λ x. p (f x)) i (drop i xs) ≡ position_from (λ x. p (f x)) 0 xs → Some i ≡ position p (map f xs)
position-found p f xs i x below is passes looked =
    sym (position_from-zero (λ x. p (f x)) xs ∙ sym looked ∙ rw (drop-cons xs i x below, ← is, passes) refl) ∙ position-map p f xs

-- after the last item, no item is the first
pub position-none : {X Y : Type 0} (p : Y → Bool) (f : X → Y) (xs : List X) (i : ℕ) → length xs ≤ i
    → position_from (λ x. p (f x)) i (drop i xs) ≡ position_from (λ x. p (f x)) 0 xs → None ≡ position p (map f xs)
position-none p f xs i all looked = sym (position_from-zero (λ x. p (f x)) xs ∙ sym looked ∙ rw (drop_all i xs all) refl) ∙ position-map p f xs
