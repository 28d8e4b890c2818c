-- Elements of lists.
use Rattle.std.proofs.Common.{◌≡◌, ℕ, zero, suc, ◌<◌, Bool, true, false, ◌&&◌, ◌||◌, List, [], ◌∷◌, ◌++◌, cond, length, refl, sym, ap, ◌∙◌, subst, ⊎_elim, ◌⊎◌, inl, inr, arith}
use Rattle.std.specs.Prelude.{slice_index_or}
use Rattle.std.specs.List.{Contains, filter, flat_map, list_all, list_any}
use Rattle.std.proofs.lemmas.Bool.{and_parts, cases_Bool}
use Rattle.std.proofs.lemmas.List.Elements.{Contains-append_left, Contains-append_right, Contains-append_cases}

pub not_in_none : {X : Type 0} (x : X) → Contains [] x → ⊥
not_in_none x h = let lt = h.1 in absurd (omega arith)

pub in_head : {X : Type 0} (x : X) (xs : List X) → Contains (x ∷ xs) x
in_head x xs = (0, omega arith, refl)

pub in_tail : {X : Type 0} (y : X) (xs : List X) (x : X) → Contains xs x → Contains (y ∷ xs) x
in_tail y xs x h = let lt = h.1 in (suc h.0, omega arith, h.2)

in_at : {X : Type 0} (y : X) (xs : List X) (x : X) (k : ℕ) → k < length (y ∷ xs) → slice_index_or (y ∷ xs) k x ≡ x → (y ≡ x) ⊎ Contains xs x
in_at y xs x zero lt is = inl is
in_at y xs x (suc k) lt is = inr (k, omega arith, is)

pub in_cases : {X : Type 0} (y : X) (xs : List X) (x : X) → Contains (y ∷ xs) x → (y ≡ x) ⊎ Contains xs x
in_cases y xs x h = in_at y xs x h.0 h.1 h.2

-- an element has elements before it and after it
pub in_split : {X : Type 0} (xs : List X) (x : X) → Contains xs x → (before : List X) × (after : List X) × (xs ≡ before ++ x ∷ after)
in_split [] x h = absurd (not_in_none x h)
in_split (y ∷ xs) x h = ⊎_elim
    (λ (is : y ≡ x). ([], xs, ap (λ z. z ∷ xs) is))
    (λ (there : Contains xs x). let split = in_split xs x there in (y ∷ split.0, split.1, ap (λ l. y ∷ l) split.2))
    (in_cases y xs x h)

pub split_in : {X : Type 0} (before : List X) (x : X) (after : List X) → Contains (before ++ x ∷ after) x
split_in before x after = Contains-append_right before (x ∷ after) x (in_head x after)

-- what one of the lists has
pub in_flat_map : {X Y : Type 0} (f : X → List Y) (xs : List X) (x : X) (y : Y) → Contains xs x → Contains (f x) y → Contains (flat_map f xs) y
in_flat_map f [] x y h there = absurd (not_in_none x h)
in_flat_map f (z ∷ xs) x y h there = ⊎_elim
    (λ (is : z ≡ x). Contains-append_left (f z) (flat_map f xs) y (subst (λ v. Contains (f v) y) (sym is) there))
    (λ (later : Contains xs x). Contains-append_right (f z) (flat_map f xs) y (in_flat_map f xs x y later there))
    (in_cases z xs x h)

pub flat_map_in : {X Y : Type 0} (f : X → List Y) (xs : List X) (y : Y) → Contains (flat_map f xs) y → (x : X) × Contains xs x × Contains (f x) y
flat_map_in f [] y h = absurd (not_in_none y h)
flat_map_in f (z ∷ xs) y h = ⊎_elim
    (λ (first : Contains (f z) y). (z, in_head z xs, first))
    (λ (later : Contains (flat_map f xs) y). let answer = flat_map_in f xs y later in (answer.0, in_tail z xs answer.0 answer.1, answer.2))
    (Contains-append_cases (f z) (flat_map f xs) y h)

-- ---- tests

pub any_in : {X : Type 0} (p : X → Bool) (xs : List X) (x : X) → Contains xs x → p x ≡ true → list_any p xs ≡ true
any_in p [] x h is = absurd (not_in_none x h)
any_in p (y ∷ xs) x h is = ⊎_elim
    (λ (same : y ≡ x). ap (λ t. t || list_any p xs) (ap p same ∙ is))
    (λ (there : Contains xs x). ap (λ t. p y || t) (any_in p xs x there is) ∙ or_yes (p y))
    (in_cases y xs x h)
  where
    or_yes : (t : Bool) → (t || true) ≡ true
    or_yes true = refl
    or_yes false = refl

pub in_any : {X : Type 0} (p : X → Bool) (xs : List X) → list_any p xs ≡ true → (x : X) × Contains xs x × (p x ≡ true)
in_any p [] is = absurd cc
in_any p (y ∷ xs) is = ⊎_elim
    (λ (here : p y ≡ true). (y, in_head y xs, here))
    (λ (no : p y ≡ false). let answer = in_any p xs (sym (ap (λ t. t || list_any p xs) no) ∙ is) in (answer.0, in_tail y xs answer.0 answer.1, answer.2))
    (cases_Bool (p y))

pub all_in : {X : Type 0} (p : X → Bool) (xs : List X) → ((x : X) → Contains xs x → p x ≡ true) → list_all p xs ≡ true
all_in p [] h = refl
all_in p (y ∷ xs) h = ap (λ t. t && list_all p xs) (h y (in_head y xs)) ∙ all_in p xs (λ x there. h x (in_tail y xs x there))

pub in_all : {X : Type 0} (p : X → Bool) (xs : List X) (x : X) → list_all p xs ≡ true → Contains xs x → p x ≡ true
in_all p [] x h there = absurd (not_in_none x there)
in_all p (y ∷ xs) x h there =
    let both = and_parts (p y) (list_all p xs) h in ⊎_elim
    (λ (same : y ≡ x). sym (ap p same) ∙ both.0)
    (λ (later : Contains xs x). in_all p xs x both.1 later)
    (in_cases y xs x there)

-- ---- filters

pub in_filter : {X : Type 0} (p : X → Bool) (xs : List X) (x : X) → Contains xs x → p x ≡ true → Contains (filter p xs) x
in_filter p [] x h is = absurd (not_in_none x h)
in_filter p (y ∷ xs) x h is = ⊎_elim
    (λ (same : y ≡ x).
    let yes : filter p (y ∷ xs) ≡ y ∷ filter p xs = ap (λ t. cond t (y ∷ filter p xs) (filter p xs)) (ap p same ∙ is) in
    subst (λ l. Contains l x) (sym yes) (subst (λ z. Contains (z ∷ filter p xs) x) (sym same) (in_head x (filter p xs))))
    (λ (there : Contains xs x).
    let rest = in_filter p xs x there is in
    elim (p y) as (λ t. Contains (cond t (y ∷ filter p xs) (filter p xs)) x) [ true ↦ in_tail y (filter p xs) x rest | false ↦ rest ])
    (in_cases y xs x h)

pub filter_in : {X : Type 0} (p : X → Bool) (xs : List X) (x : X) → Contains (filter p xs) x → Contains xs x × (p x ≡ true)
filter_in p [] x h = absurd (not_in_none x h)
filter_in p (y ∷ xs) x h = ⊎_elim
    (λ (yes : p y ≡ true). ⊎_elim
    (λ (same : y ≡ x). (subst (λ z. Contains (y ∷ xs) z) same (in_head y xs), sym (ap p same) ∙ yes))
    (λ (there : Contains (filter p xs) x). let rest = filter_in p xs x there in (in_tail y xs x rest.0, rest.1))
    (in_cases y (filter p xs) x (subst (λ l. Contains l x) (ap (λ t. cond t (y ∷ filter p xs) (filter p xs)) yes) h)))
    (λ (no : p y ≡ false).
    let rest = filter_in p xs x (subst (λ l. Contains l x) (ap (λ t. cond t (y ∷ filter p xs) (filter p xs)) no) h) in (in_tail y xs x rest.0, rest.1))
    (cases_Bool (p y))

pub filter_all : {X : Type 0} (p : X → Bool) (xs : List X) → ((x : X) → Contains xs x → p x ≡ true) → filter p xs ≡ xs
filter_all p [] h = refl
filter_all p (y ∷ xs) h =
    ap (λ t. cond t (y ∷ filter p xs) (filter p xs)) (h y (in_head y xs)) ∙ ap (λ l. y ∷ l) (filter_all p xs (λ x there. h x (in_tail y xs x there)))

pub filter_no : {X : Type 0} (p : X → Bool) (xs : List X) → ((x : X) → Contains xs x → p x ≡ true → ⊥) → filter p xs ≡ []
filter_no p [] h = refl
filter_no p (y ∷ xs) h = ⊎_elim
    (λ (yes : p y ≡ true). absurd (h y (in_head y xs) yes))
    (λ (no : p y ≡ false). ap (λ t. cond t (y ∷ filter p xs) (filter p xs)) no ∙ filter_no p xs (λ x there. h x (in_tail y xs x there)))
    (cases_Bool (p y))

-- what one test takes is among what another takes
pub filter_within : {X : Type 0} (p q : X → Bool) (xs : List X) → ((x : X) → Contains xs x → p x ≡ true → q x ≡ true) → filter p (filter q xs) ≡ filter p xs
filter_within p q [] h = refl
filter_within p q (y ∷ xs) h =
    let rest = filter_within p q xs (λ x there. h x (in_tail y xs x there)) in ⊎_elim
    (λ (yes : q y ≡ true). ap (λ t. filter p (cond t (y ∷ filter q xs) (filter q xs))) yes ∙ ap (λ l. cond (p y) (y ∷ l) l) rest)
    (λ (no : q y ≡ false). ap (λ t. filter p (cond t (y ∷ filter q xs) (filter q xs))) no ∙ rest ∙ ⊎_elim
    (λ (started : p y ≡ true). let both : q y ≡ true = h y (in_head y xs) started in absurd cc)
    (λ (not : p y ≡ false). sym (ap (λ t. cond t (y ∷ filter p xs) (filter p xs)) not))
    (cases_Bool (p y)))
    (cases_Bool (q y))
