-- Counts of elements that pass, and the words of actions.
use Rattle.std.proofs.Common.{◌≡◌, ℕ, ◌+◌, ◌≤◌, List, [], ◌∷◌, ◌++◌, Bool, true, false, cond, map, Some, suc, zero, refl, sym, ap, ◌∙◌, ⊎_elim, arith, count_by}
use Rattle.std.specs.Prelude.{◌&&◌}
use Rattle.std.specs.Str.{bytes_eq}
use Rattle.std.proofs.lemmas.Bool.{cases_Bool}
use Rattle.std.proofs.lemmas.List.Sums.{sum_by-cons, sum_by_push}
use Rattle.stream_check.specs.declared.messages.action.Action.{Action}
use Rattle.stream_check.specs.declared.messages.action.Action.TheVariants.{Create, Update, Delete, Read, Refresh}
use Rattle.stream_check.specs.Words.{action_word, same_action}
use Rattle.stream_timeline.specs.Steps.{StepRead, at_place, first_of, passes_at, places_from}
use Rattle.laws_timeline.proofs.Matching.{is_change}

abbrev pub one_if : Bool → ℕ
one_if b = cond b 1 0

-- ---- words of actions

pub words_apart : (j k : Action) → bytes_eq (action_word j) (action_word k) ≡ same_action j k
words_apart Create Create = refl
words_apart Create Update = refl
words_apart Create Delete = refl
words_apart Create Read = refl
words_apart Create Refresh = refl
words_apart Update Create = refl
words_apart Update Update = refl
words_apart Update Delete = refl
words_apart Update Read = refl
words_apart Update Refresh = refl
words_apart Delete Create = refl
words_apart Delete Update = refl
words_apart Delete Delete = refl
words_apart Delete Read = refl
words_apart Delete Refresh = refl
words_apart Read Create = refl
words_apart Read Update = refl
words_apart Read Delete = refl
words_apart Read Read = refl
words_apart Read Refresh = refl
words_apart Refresh Create = refl
words_apart Refresh Update = refl
words_apart Refresh Delete = refl
words_apart Refresh Read = refl
words_apart Refresh Refresh = refl

pub other_action : (k j : Action) → is_change k ≡ false → is_change j ≡ true → same_action k j ≡ false
other_action Create j e h = absurd cc
other_action Update j e h = absurd cc
other_action Delete j e h = absurd cc
other_action Read Create e h = refl
other_action Read Update e h = refl
other_action Read Delete e h = refl
other_action Read Read e h = absurd cc
other_action Read Refresh e h = absurd cc
other_action Refresh Create e h = refl
other_action Refresh Update e h = refl
other_action Refresh Delete e h = refl
other_action Refresh Read e h = absurd cc
other_action Refresh Refresh e h = absurd cc

pub and_false : (b : Bool) → (b && false) ≡ false
and_false true = refl
and_false false = refl

pub and_true : (b : Bool) → (b && true) ≡ b
and_true true = refl
and_true false = refl

-- ---- counts

pub count_cons : {X : Type 0} (p : X → Bool) (x : X) (xs : List X) → count_by p (x ∷ xs) ≡ one_if (p x) + count_by p xs
count_cons p x xs = sum_by-cons (λ y. one_if (p y)) x xs

pub count_push : {X : Type 0} (p : X → Bool) (xs : List X) (x : X) → count_by p (xs ++ x ∷ []) ≡ count_by p xs + one_if (p x)
count_push p xs x = sum_by_push (λ y. one_if (p y)) xs x

pub preserved_at : (p : StepRead → Bool) (f : StepRead → StepRead) → ((s : StepRead) → p (f s) ≡ p s) → (i : ℕ) (xs : List StepRead) → count_by p (at_place i f xs) ≡ count_by p xs
preserved_at p f same i [] = refl
preserved_at p f same zero (x ∷ xs) = count_cons p (f x) xs ∙ (ap (λ b. one_if b + count_by p xs) (same x) ∙ sym (count_cons p x xs))
preserved_at p f same (suc i) (x ∷ xs) =
    count_cons p x (at_place i f xs) ∙ (ap (λ (n : ℕ). one_if (p x) + n) (preserved_at p f same i xs) ∙ sym (count_cons p x xs))

pub preserved_all : (p : StepRead → Bool) (f : StepRead → StepRead) → ((s : StepRead) → p (f s) ≡ p s) → (xs : List StepRead) → count_by p (map f xs) ≡ count_by p xs
preserved_all p f same [] = refl
preserved_all p f same (x ∷ xs) =
    count_cons p (f x) (map f xs) ∙ (ap (λ b. one_if b + count_by p (map f xs)) (same x) ∙ (ap (λ (n : ℕ). one_if (p x) + n) (preserved_all p f same xs) ∙ sym (count_cons p x xs)))

pub changed_at : (p test : StepRead → Bool) (f : StepRead → StepRead) (before after : Bool) → ((s : StepRead) → test s ≡ true → (p s ≡ before) × (p (f s) ≡ after)) → (i : ℕ) (xs : List StepRead)
    → passes_at i test xs ≡ true → count_by p (at_place i f xs) + one_if before ≡ count_by p xs + one_if after
changed_at p test f before after h i [] e = absurd cc
changed_at p test f before after h zero (x ∷ xs) e =
    let is = h x e in
    let first = count_cons p (f x) xs in
    let old = count_cons p x xs in
    let new_one : one_if (p (f x)) ≡ one_if after = ap one_if is.1 in
    let old_one : one_if (p x) ≡ one_if before = ap one_if is.0 in
    omega (arith, first, old, new_one, old_one)
changed_at p test f before after h (suc i) (x ∷ xs) e =
    let rest = changed_at p test f before after h i xs e in
    let new = count_cons p x (at_place i f xs) in
    let old = count_cons p x xs in
    omega (arith, rest, new, old)

skip_first : (p : StepRead → Bool) (n i : ℕ) (x : StepRead) (xs : List StepRead) → p x ≡ false → first_of (places_from (n + 1) p xs) ≡ Some i → first_of (places_from n p (x ∷ xs)) ≡ Some i
skip_first p n i x xs out e = rw out e

-- where some pass, there is a first one
pub first_some : (p : StepRead → Bool) (n : ℕ) (xs : List StepRead) → 1 ≤ count_by p xs → (i : ℕ) × (first_of (places_from n p xs) ≡ Some i)
first_some p n [] l = absurd (omega arith)
first_some p n (x ∷ xs) l =
    ⊎_elim
    (λ (yes : p x ≡ true). (n, rw yes refl))
    (λ (no : p x ≡ false).
    let all = count_cons p x xs in
    let none : one_if (p x) ≡ 0 = rw no refl in
    let rest = first_some p (n + 1) xs (omega (arith, l, all, none)) in
    (rest.0, skip_first p n rest.0 x xs no rest.1))
    (cases_Bool (p x))
