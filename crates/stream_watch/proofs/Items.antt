-- The items of an array, and lists with one element more.
use Rattle.std.proofs.Common.{◌≡◌, ◌∙◌, ℕ, ◌+◌, ◌<◌, List, [], ◌∷◌, ◌++◌, Option, ap, append-nil, get_or, length, map, refl, sym, take}
use Rattle.std.specs.Prelude.{None, Some, option_to_list}
use Rattle.std.specs.List.{cons_option, filter_map, flat_map}
use Rattle.std.proofs.lemmas.Grind.{flat_map-append}
use Rattle.std.proofs.lemmas.List.{map-append, take_more}
use Rattle.std.proofs.lemmas.List.Elements.{filter_map-append}
use Rattle.serde_json.specs.Data.{Data}
use Rattle.serde_json.specs.View.{items_of, items_view, view}
use Rattle.serde_json.specs.declared.value.Value.{Value}
use Rattle.apply_json.specs.Tree.{list_of}

items_listed : (items : List Data) → list_of (items_of items) ≡ items
items_listed [] = refl
items_listed (item ∷ items) = ap (λ (ds : List Data). item ∷ ds) (items_listed items)

pub view_listed : (items : List Value) → list_of (items_view items) ≡ map view items
view_listed items = items_listed (map view items)

-- one element more, seen by `f`
pub map_take-more : {A B : Type 0} (f : A → B) (xs : List A) (i : ℕ) (x : A) → i < length xs → x ≡ get_or xs i x
    → map f (take (i + 1) xs) ≡ map f (take i xs) ++ f x ∷ []
map_take-more f xs i x below is =
    ap (map f) (take_more xs i x below) ∙ map-append f (take i xs) (get_or xs i x ∷ [])
    ∙ ap (λ y. map f (take i xs) ++ f y ∷ []) (sym is)

pub flat_map_take-more : {A B : Type 0} (g : B → List ℕ) (f : A → B) (xs : List A) (i : ℕ) (x : A) → i < length xs → x ≡ get_or xs i x
    → flat_map g (map f (take (i + 1) xs)) ≡ flat_map g (map f (take i xs)) ++ g (f x)
flat_map_take-more g f xs i x below is =
    ap (flat_map g) (map_take-more f xs i x below is) ∙ flat_map-append g (map f (take i xs)) (f x ∷ [])
    ∙ ap (λ (bytes : List ℕ). flat_map g (map f (take i xs)) ++ bytes) (append-nil (g (f x)))

option_listed : {A : Type 0} (o : Option A) → cons_option o [] ≡ option_to_list o
option_listed None = refl
option_listed (Some x) = refl

pub filter_map_take-more : {A B C : Type 0} (h : B → Option C) (f : A → B) (xs : List A) (i : ℕ) (x : A) → i < length xs → x ≡ get_or xs i x
    → filter_map h (map f (take (i + 1) xs)) ≡ filter_map h (map f (take i xs)) ++ option_to_list (h (f x))
filter_map_take-more {A} {B} {C} h f xs i x below is =
    ap (filter_map h) (map_take-more f xs i x below is) ∙ filter_map-append h (map f (take i xs)) (f x ∷ [])
    ∙ ap (λ (ys : List C). filter_map h (map f (take i xs)) ++ ys) (option_listed (h (f x)))
