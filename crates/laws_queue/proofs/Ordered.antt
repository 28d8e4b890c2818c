-- Lists in which each element stands in a relation to all elements after it.
use Rattle.std.proofs.Common.{◌≡◌, ◌∙◌, ◌<◌, ℕ, zero, suc, All, Bool, true, false, List, [], ◌∷◌, ◌++◌, Some, cond, filter, sym, ap, arith, subst, ⊎_elim}
use Rattle.std.specs.Prelude.{slice_get}
use Rattle.std.specs.List.{Contains}
use Rattle.std.proofs.lemmas.Bool.{cases_Bool, true≢false}
use Rattle.std.proofs.lemmas.List.Elements.{All-append, All-cons, All-head, All-nil, All-tail, All-weaker}
use Rattle.apply_events.proofs.Waits.Members.{in_head, in_tail}

abbrev pub Ordered : {X : Type 0} → (X → X → Type 0) → List X → Type 0
Ordered P [] = Unit {0}
Ordered P (x ∷ xs) = All (P x) xs × Ordered P xs

pub ordered_append : {X : Type 0} (P : X → X → Type 0) (xs ys : List X) → Ordered P xs → Ordered P ys → All (λ x. All (P x) ys) xs → Ordered P (xs ++ ys)
ordered_append P [] ys first second cross = second
ordered_append P (x ∷ xs) ys first second cross =
    (All-append (P x) xs ys first.0 (All-head (λ a. All (P a) ys) x xs cross), ordered_append P xs ys first.1 second (All-tail (λ a. All (P a) ys) x xs cross))

pub ordered_weaker : {X : Type 0} (P Q : X → X → Type 0) (xs : List X) → ((x y : X) → P x y → Q x y) → Ordered P xs → Ordered Q xs
ordered_weaker P Q [] weaker are = tt
ordered_weaker P Q (x ∷ xs) weaker are = (All-weaker (P x) (Q x) (weaker x) xs are.0, ordered_weaker P Q xs weaker are.1)

-- ---- filters

all_filter : {X : Type 0} (Q : X → Type 0) (test : X → Bool) (xs : List X) → All Q xs → All Q (filter test xs)
all_filter Q test [] all = All-nil Q
all_filter Q test (x ∷ xs) all =
    let rest = all_filter Q test xs (All-tail Q x xs all) in
    elim (test x) as (λ t. All Q (cond t (x ∷ filter test xs) (filter test xs))) [ true ↦ All-cons Q x (filter test xs) (All-head Q x xs all) rest | false ↦ rest ]

pub ordered_filter : {X : Type 0} (P : X → X → Type 0) (test : X → Bool) (xs : List X) → Ordered P xs → Ordered P (filter test xs)
ordered_filter P test [] are = tt
ordered_filter P test (x ∷ xs) are =
    let rest = ordered_filter P test xs are.1 in
    elim (test x) as (λ t. Ordered P (cond t (x ∷ filter test xs) (filter test xs))) [ true ↦ (all_filter (P x) test xs are.0, rest) | false ↦ rest ]

all_of_filter : {X : Type 0} (Q : X → Type 0) (test : X → Bool) (xs : List X) → All Q (filter test xs) → All (λ x. test x ≡ true → Q x) xs
all_of_filter Q test [] all = All-nil (λ x. test x ≡ true → Q x)
all_of_filter Q test (x ∷ xs) all = ⊎_elim
    (λ (is : test x ≡ true).
    let both : All Q (x ∷ filter test xs) = subst (All Q) (ap (λ t. cond t (x ∷ filter test xs) (filter test xs)) is) all in
    All-cons (λ y. test y ≡ true → Q y) x xs (λ _. All-head Q x (filter test xs) both) (all_of_filter Q test xs (All-tail Q x (filter test xs) both)))
    (λ (no : test x ≡ false).
    let rest : All Q (filter test xs) = subst (All Q) (ap (λ t. cond t (x ∷ filter test xs) (filter test xs)) no) all in
    All-cons (λ y. test y ≡ true → Q y) x xs (λ is. absurd (true≢false (sym is ∙ no))) (all_of_filter Q test xs rest))
    (cases_Bool (test x))

-- what holds of those that pass a test
pub ordered_of_filter : {X : Type 0} (P : X → X → Type 0) (test : X → Bool) (xs : List X) → Ordered P (filter test xs) → Ordered (λ x y. test x ≡ true → test y ≡ true → P x y) xs
ordered_of_filter P test [] are = tt
ordered_of_filter P test (x ∷ xs) are = ⊎_elim
    (λ (is : test x ≡ true).
    let both : Ordered P (x ∷ filter test xs) = subst (Ordered P) (ap (λ t. cond t (x ∷ filter test xs) (filter test xs)) is) are in (
      All-weaker (λ y. test y ≡ true → P x y) (λ y. test x ≡ true → test y ≡ true → P x y) (λ y h _ own. h own) xs (all_of_filter (P x) test xs both.0),
      ordered_of_filter P test xs both.1,
    ))
    (λ (no : test x ≡ false).
    let rest : Ordered P (filter test xs) = subst (Ordered P) (ap (λ t. cond t (x ∷ filter test xs) (filter test xs)) no) are in
    ((λ i d lt is. absurd (true≢false (sym is ∙ no))), ordered_of_filter P test xs rest))
    (cases_Bool (test x))

-- ---- elements by their places

pub all_get : {X : Type 0} (Q : X → Type 0) (xs : List X) (i : ℕ) (x : X) → All Q xs → slice_get xs i ≡ Some x → Q x
all_get Q [] i x all is = absurd cc
all_get Q (y ∷ xs) zero x all is = let same : y ≡ x = cc in subst Q same (All-head Q y xs all)
all_get Q (y ∷ xs) (suc i) x all is = all_get Q xs i x (All-tail Q y xs all) is

pub get_in : {X : Type 0} (xs : List X) (i : ℕ) (x : X) → slice_get xs i ≡ Some x → Contains xs x
get_in [] i x is = absurd cc
get_in (y ∷ xs) zero x is = let same : y ≡ x = cc in subst (Contains (y ∷ xs)) same (in_head y xs)
get_in (y ∷ xs) (suc i) x is = in_tail y xs x (get_in xs i x is)

pub ordered_get : {X : Type 0} (P : X → X → Type 0) (xs : List X) (i j : ℕ) (x y : X) → Ordered P xs → slice_get xs i ≡ Some x → slice_get xs j ≡ Some y → i < j → P x y
ordered_get P [] i j x y are first second lt = absurd cc
ordered_get P (z ∷ xs) i zero x y are first second lt = absurd (omega arith)
ordered_get P (z ∷ xs) zero (suc j) x y are first second lt = let same : z ≡ x = cc in subst (λ a. P a y) same (all_get (P z) xs j y are.0 second)
ordered_get P (z ∷ xs) (suc i) (suc j) x y are first second lt = ordered_get P xs i j x y are.1 first second (omega arith)
