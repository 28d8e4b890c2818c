-- Lists that are made of others, one element at a time.
use Rattle.std.proofs.Common.{◌≡◌, ℕ, ◌+◌, ◌<◌, ◌≤◌, List, [], ◌∷◌, ◌++◌, length, map, drop, take, get_or, sym, ap, ◌∙◌, append_assoc}
use Rattle.std.specs.List.{flat_map}
use Rattle.std.proofs.lemmas.List.{drop_more, length-map, length-take-le, map-append, take_more}
use Rattle.serde_json.specs.Data.{Data}
use Rattle.serde_json.specs.View.{view}
use Rattle.serde_json.specs.declared.value.Value.{Value}

-- one more element
pub map-take_more : {A B : Type 0} (f : A → B) (xs : List A) (i : ℕ) (x : A) → i < length xs
    → map f (take i xs) ++ f (get_or xs i x) ∷ [] ≡ map f (take (i + 1) xs)
map-take_more f xs i x below = sym (map-append f (take i xs) (get_or xs i x ∷ [])) ∙ ap (map f) (sym (take_more xs i x below))

pub so_many_mapped : {A B : Type 0} (f : A → B) (xs : List A) (i : ℕ) → i ≤ length xs → i ≡ length (map f (take i xs))
so_many_mapped f xs i few = sym (length-map (take i xs) f ∙ length-take-le i xs few)

-- what one value gives, and what is left
pub flat_map-drop_more : {X : Type 0} (give : Data → List X) (vs : List Value) (i : ℕ) (v : Value) → i < length vs → v ≡ get_or vs i v
    → flat_map give (map view (drop i vs)) ≡ give (view v) ++ flat_map give (map view (drop (i + 1) vs))
flat_map-drop_more give vs i v below is =
    ap (λ (ws : List Value). flat_map give (map view ws)) (drop_more vs i v below)
    ∙ ap (λ (w : Value). give (view w) ++ flat_map give (map view (drop (i + 1) vs))) (sym is)

-- a part was added in front of what is left
pub part_added : {X : Type 0} (old own rest new whole : List X) → new ≡ old ++ own → old ++ (own ++ rest) ≡ whole → new ++ rest ≡ whole
part_added {X} old own rest new whole added so_far =
    ap (λ (xs : List X). xs ++ rest) added ∙ append_assoc old own rest ∙ so_far
