-- Lists: what stands at each place, and the first and the last that pass a test.
use Rattle.std.proofs.Common.{◌≡◌, ◌∙◌, ℕ, suc, ◌+◌, List, [], ◌∷◌, ◌++◌, Option, None, Some, Bool, false, cond, not, ap, arith, one-add, refl, reverse, subst, take}
use Rattle.std.specs.Prelude.{⊤, slice_get}
use Rattle.std.specs.List.{AllByRecursion, before_first, cons_option, filter_map, find, prefix_len}
use Rattle.std.specs.Option.{option_or}
use Rattle.std.proofs.lemmas.List.{reverse-append}
use Rattle.std.proofs.lemmas.List.Folds.{find-append}

-- ---- places

-- These stand in the list from place n on.
abbrev pub StandAt : {X : Type 0} → (all : List X) → (n : ℕ) → List X → Type 0
StandAt all n [] = ⊤
StandAt all n (x ∷ xs) = (slice_get all n ≡ Some x) × StandAt all (n + 1) xs

stand_later : {X : Type 0} (first : X) (all : List X) (n : ℕ) (xs : List X) → StandAt all n xs → StandAt (first ∷ all) (suc n) xs
stand_later first all n [] stand = tt
stand_later first all n (x ∷ xs) stand =
    let e : suc (n + 1) ≡ suc n + 1 = omega arith in
    (stand.0, subst (λ (k : ℕ). StandAt (first ∷ all) k xs) e (stand_later first all (n + 1) xs stand.1))

pub stand_all : {X : Type 0} (xs : List X) → StandAt xs 0 xs
stand_all [] = tt
stand_all (x ∷ xs) = (refl, stand_later x xs 0 xs (stand_all xs))

-- ---- what holds of all

pub all_append : {X : Type 0} (P : X → Type 0) (xs ys : List X) → AllByRecursion P xs → AllByRecursion P ys → AllByRecursion P (xs ++ ys)
all_append P [] ys some others = others
all_append P (x ∷ xs) ys some others = (some.0, all_append P xs ys some.1 others)

pub all_are : {X : Type 0} (P Q : X → Type 0) (xs : List X) → ((x : X) → P x → Q x) → AllByRecursion P xs → AllByRecursion Q xs
all_are P Q [] each all = tt
all_are P Q (x ∷ xs) each all = (each x all.0, all_are P Q xs each all.1)

-- ---- tests

-- The first that passes does not stand among those that fail.
pub find_later : {X : Type 0} (p : X → Bool) (xs ys : List X) → AllByRecursion (λ x. p x ≡ false) xs → find p (xs ++ ys) ≡ find p ys
find_later p [] ys none = refl
find_later {X} p (x ∷ xs) ys none =
    ap (λ (b : Bool). cond b (Some x) (find p (xs ++ ys))) none.0 ∙ find_later p xs ys none.1

pub front_later : {X : Type 0} (p : X → Bool) (xs ys : List X) → AllByRecursion (λ x. p x ≡ false) xs
    → before_first p (xs ++ ys) ≡ xs ++ before_first p ys
front_later p [] ys none = refl
front_later {X} p (x ∷ xs) ys none =
    let n = prefix_len (λ (x : X). not (p x)) (xs ++ ys) in
    ap (λ (b : Bool). take (cond (not b) (1 + n) 0) (x ∷ (xs ++ ys))) none.0
    ∙ ap (λ (m : ℕ). take m (x ∷ (xs ++ ys))) (one-add n)
    ∙ ap (λ (front : List X). x ∷ front) (front_later p xs ys none.1)

pub front_none : {X : Type 0} (p : X → Bool) (xs : List X) → AllByRecursion (λ x. p x ≡ false) xs → before_first p xs ≡ xs
front_none p [] none = refl
front_none {X} p (x ∷ xs) none =
    let n = prefix_len (λ (x : X). not (p x)) xs in
    ap (λ (b : Bool). take (cond (not b) (1 + n) 0) (x ∷ xs)) none.0
    ∙ ap (λ (m : ℕ). take m (x ∷ xs)) (one-add n)
    ∙ ap (λ (front : List X). x ∷ front) (front_none p xs none.1)

-- The last that passes.
pub last_append : {X : Type 0} (p : X → Bool) (xs ys : List X)
    → find p (reverse (xs ++ ys)) ≡ option_or (find p (reverse ys)) (find p (reverse xs))
last_append p xs ys = ap (find p) (reverse-append xs ys) ∙ find-append p (reverse ys) (reverse xs)

pub last_none : {X : Type 0} (p : X → Bool) (xs : List X) → AllByRecursion (λ x. p x ≡ false) xs → find p (reverse xs) ≡ None
last_none p [] none = refl
last_none {X} p (x ∷ xs) none =
    last_append p (x ∷ []) xs
    ∙ ap (λ (o : Option X). option_or o (find p (x ∷ []))) (last_none p xs none.1)
    ∙ ap (λ (b : Bool). cond b (Some x) None) none.0

pub nothing_of : {X Y : Type 0} (h : X → Option Y) (xs : List X) → AllByRecursion (λ x. h x ≡ None) xs → filter_map h xs ≡ []
nothing_of h [] none = refl
nothing_of {Y} h (x ∷ xs) none =
    ap (λ (o : Option Y). cons_option o (filter_map h xs)) none.0 ∙ nothing_of h xs none.1
