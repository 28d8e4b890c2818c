-- Lists of values, made one by one.
use Rattle.std.proofs.Common.{◌≡◌, ℕ, ◌+◌, ◌<◌, ◌≤◌, List, [], ◌∷◌, ◌++◌, length, get_or, map, take, Option, Some, None, filter_map, refl, sym, ap, ◌∙◌, append-nil}
use Rattle.std.specs.List.{cons_option}
use Rattle.std.proofs.lemmas.List.{take_all, take_more}
use Rattle.std.proofs.lemmas.List.Elements.{filter_map-append}
use Rattle.serde_json.specs.View.{view, items_view}
use Rattle.serde_json.specs.declared.value.Value.{Value}
use Rattle.apply_json.specs.Tree.{list_of}

pub listed : (values : List Value) → list_of (items_view values) ≡ map view values
listed [] = refl
listed (value ∷ values) = ap (λ ds. view value ∷ ds) (listed values)

-- one more at the end
pub one_more : {X : Type 0} (xs : List X) (i : ℕ) (x : X) → i < length xs → x ≡ get_or xs i x → take (i + 1) xs ≡ take i xs ++ x ∷ []
one_more xs i x below read = take_more xs i x below ∙ ap (λ y. take i xs ++ y ∷ []) (sym read)

kept_end : {X Y : Type 0} (f : X → Option Y) (xs : List X) (x : X) (o : Option Y) → f x ≡ o → filter_map f (xs ++ x ∷ []) ≡ filter_map f xs ++ cons_option o []
kept_end f xs x o is = filter_map-append f xs (x ∷ []) ∙ ap (λ p. filter_map f xs ++ cons_option p []) is

pub kept_more : {X Y : Type 0} (f : X → Option Y) (xs : List X) (i : ℕ) (x : X) (o : Option Y) → i < length xs → x ≡ get_or xs i x → f x ≡ o
    → filter_map f (take (i + 1) xs) ≡ filter_map f (take i xs) ++ cons_option o []
kept_more f xs i x o below read is = ap (filter_map f) (one_more xs i x below read) ∙ kept_end f (take i xs) x o is

-- a value is passed over
pub none_more : {X Y : Type 0} (f : X → Option Y) (xs : List X) (i : ℕ) (x : X) → i < length xs → x ≡ get_or xs i x → f x ≡ None
    → filter_map f (take i xs) ≡ filter_map f (take (i + 1) xs)
none_more f xs i x below read is = sym (kept_more f xs i x None below read is ∙ append-nil (filter_map f (take i xs)))

kept_seen : {X D Y : Type 0} (see : X → D) (f : D → Option Y) (xs : List X) → filter_map (λ x. f (see x)) xs ≡ filter_map f (map see xs)
kept_seen see f [] = refl
kept_seen see f (x ∷ xs) = ap (cons_option (f (see x))) (kept_seen see f xs)

-- none is left
kept_all : {X Y : Type 0} (f : X → Option Y) (xs : List X) (i : ℕ) → length xs ≤ i → filter_map f (take i xs) ≡ filter_map f xs
kept_all f xs i past = ap (filter_map f) (take_all i xs past)

pub kept_all_seen : {X D Y : Type 0} (see : X → D) (f : D → Option Y) (xs : List X) (i : ℕ) → length xs ≤ i → filter_map (λ x. f (see x)) (take i xs) ≡ filter_map f (map see xs)
kept_all_seen see f xs i past = kept_all (λ x. f (see x)) xs i past ∙ kept_seen see f xs

-- an item is kept, or passed over
pub pushed : {X Y : Type 0} (f : X → Option Y) (xs : List X) (i : ℕ) (x : X) (y : Y) (old new : List Y) → i < length xs → x ≡ get_or xs i x → f x ≡ Some y → old ≡ filter_map f (take i xs) → new ≡ old ++ y ∷ []
    → new ≡ filter_map f (take (i + 1) xs)
pushed f xs i x y old new below read is so_far more = more ∙ ap (λ ys. ys ++ y ∷ []) so_far ∙ sym (kept_more f xs i x (Some y) below read is)

pub passed : {X Y : Type 0} (f : X → Option Y) (xs : List X) (i : ℕ) (x : X) (old : List Y) → i < length xs → x ≡ get_or xs i x → f x ≡ None → old ≡ filter_map f (take i xs) → old ≡ filter_map f (take (i + 1) xs)
passed f xs i x old below read is so_far = so_far ∙ none_more f xs i x below read is
