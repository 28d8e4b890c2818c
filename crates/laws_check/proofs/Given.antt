-- What holds of a value, if there is one, and of what is made of it.
use Rattle.std.proofs.Common.{◌≡◌, ℕ, zero, suc, ◌+◌, All, List, [], ◌∷◌, length, map, slice_get, take, unwrap_or, Option, Some, None, Result, Ok, Err, refl, ap, ◌∙◌, subst}
use Rattle.std.specs.Prelude.{IfOk, IfSome, option_and_then, option_map}
use Rattle.std.specs.List.{AllByRecursion, enumerate_from}
use Rattle.std.specs.Option.{option_or}
use Rattle.std.proofs.lemmas.List.Elements.{All-cons, All-head, All-nil, All-tail}
use Rattle.apply_json.specs.Tree as json
use Rattle.apply_plan.specs.Results.{◌>>=◌, all_or_first, each_with_earlier, or_refuse}
use Rattle.apply_plan.specs.Script.Entry.{all_some}

module _ {A B : Type 0} (P : A → Type 0) (Q : B → Type 0) where
  pub mapped : (f : A → B) (o : Option A) → ((x : A) → P x → Q (f x)) → IfSome o P → IfSome (option_map f o) Q
  mapped f None step h = tt
  mapped f (Some x) step h = step x h

  pub gone_on : (f : A → Option B) (o : Option A) → ((x : A) → P x → IfSome (f x) Q) → IfSome o P → IfSome (option_and_then f o) Q
  gone_on f None step h = tt
  gone_on f (Some x) step h = step x h

  pub next_of : (o : Option A) (f : A → Option B) → IfSome o P → ((x : A) → P x → IfSome (f x) Q) → IfSome (json.◌>>=◌ o f) Q
  next_of None f h step = tt
  next_of (Some x) f h step = step x h

  pub then_of : {E : Type 0} (r : Result A E) (f : A → Result B E) → IfOk r P → ((x : A) → P x → IfOk (f x) Q) → IfOk (r >>= f) Q
  then_of (Ok x) f h step = step x h
  then_of (Err e) f h step = tt

-- the value of a step that had one
pub is_given : {A : Type 0} (P : A → Type 0) (o : Option A) (x : A) → IfSome o P → o ≡ Some x → P x
is_given P None x h e = absurd cc
is_given P (Some y) x h e = subst P (let same : y ≡ x = cc in same) h

pub is_answered : {A E : Type 0} (P : A → Type 0) (r : Result A E) (x : A) → IfOk r P → r ≡ Ok x → P x
is_answered P (Err f) x h e = absurd cc
is_answered P (Ok y) x h e = subst P (let same : y ≡ x = cc in same) h

-- a value without a condition
pub any_given : {A : Type 0} (o : Option A) → IfSome o (λ _. Unit {0})
any_given None = tt
any_given (Some x) = tt

pub refused_or : {A E : Type 0} (P : A → Type 0) (refusal : E) (o : Option A) → IfSome o P → IfOk (or_refuse refusal o) P
refused_or P refusal None h = tt
refused_or P refusal (Some x) h = h

pub unwrapped : {A : Type 0} (P : A → Type 0) (o : Option A) (x : A) → IfSome o P → P x → P (unwrap_or o x)
unwrapped P None x h other = other
unwrapped P (Some y) x h other = h

pub first_of_two : {A : Type 0} (P : A → Type 0) (o p : Option A) → IfSome o P → IfSome p P → IfSome (option_or o p) P
first_of_two P None p h other = other
first_of_two P (Some x) p h other = h

pub both_given : {A : Type 0} (P Q : A → Type 0) (o : Option A) → IfSome o P → IfSome o Q → IfSome o (λ x. P x × Q x)
both_given P Q None h other = tt
both_given P Q (Some x) h other = (h, other)

-- ---- lists

pub held_at : {A : Type 0} (P : A → Type 0) (xs : List A) (k : ℕ) → AllByRecursion P xs → IfSome (slice_get xs k) P
held_at P [] k h = tt
held_at P (x ∷ xs) zero h = h.0
held_at P (x ∷ xs) (suc k) h = held_at P xs k h.1

pub each_held : {A : Type 0} (P : A → Type 0) (xs : List A) → All P xs → AllByRecursion P xs
each_held P [] h = tt
each_held P (x ∷ xs) h = (All-head P x xs h, each_held P xs (All-tail P x xs h))

pub numbered : {A : Type 0} (P : A → Type 0) (n : ℕ) (xs : List A) → AllByRecursion P xs → AllByRecursion (λ (p : ℕ × A). P p.1) (enumerate_from n xs)
numbered P n [] h = tt
numbered P n (x ∷ xs) h = (h.0, numbered P (n + 1) xs h.1)

pub all_given : {A B : Type 0} (P : A → Type 0) (Q : B → Type 0) (f : A → Option B) (xs : List A) → ((x : A) → P x → IfSome (f x) Q) → AllByRecursion P xs → IfSome (all_some (map f xs)) (AllByRecursion Q)
all_given P Q f [] step h = tt
all_given P Q f (x ∷ xs) step h =
    next_of Q (AllByRecursion Q) (f x) _ (step x h.0) (λ y one. next_of (AllByRecursion Q) (AllByRecursion Q) (all_some (map f xs)) _ (all_given P Q f xs step h.1) (λ ys others. (one, others)))

-- as many answers as elements
abbrev pub AreAnswers : {A B : Type 0} → (B → Type 0) → List A → List B → Type 0
AreAnswers Q xs ys = AllByRecursion Q ys × (length ys ≡ length xs)

pub all_answered : {A B E : Type 0} (P : A → Type 0) (Q : B → Type 0) (f : A → Result B E) (xs : List A) → ((x : A) → P x → IfOk (f x) Q) → AllByRecursion P xs → IfOk (all_or_first (map f xs)) (AreAnswers Q xs)
all_answered P Q f [] step h = (tt, refl)
all_answered P Q f (x ∷ xs) step h =
    then_of Q (AreAnswers Q (x ∷ xs)) (f x) _ (step x h.0)
    (λ y one. then_of (AreAnswers Q xs) (AreAnswers Q (x ∷ xs)) (all_or_first (map f xs)) _ (all_answered P Q f xs step h.1) (λ ys others. ((one, others.0), ap suc others.1)))

numbered_length : {A : Type 0} (n : ℕ) (xs : List A) → length (enumerate_from n xs) ≡ length xs
numbered_length n [] = refl
numbered_length n (x ∷ xs) = ap suc (numbered_length (n + 1) xs)

pub each_answered : {A B E : Type 0} (P : A → Type 0) (Q : B → Type 0) (f : List A → A → Result B E) (xs : List A) → ((before : List A) (x : A) → P x → IfOk (f before x) Q) → AllByRecursion P xs
    → IfOk (all_or_first (each_with_earlier f xs)) (AreAnswers Q xs)
each_answered {A} {B} {E} P Q f xs step h =
    counted (all_or_first (each_with_earlier f xs))
    (all_answered (λ (p : ℕ × A). P p.1) Q (λ p. f (take p.0 xs) p.1) (enumerate_from 0 xs) (λ p one. step (take p.0 xs) p.1 one) (numbered P 0 xs h))
  where
    counted : (r : Result (List B) E) → IfOk r (AreAnswers Q (enumerate_from 0 xs)) → IfOk r (AreAnswers Q xs)
    counted (Ok ys) h = (h.0, h.1 ∙ numbered_length 0 xs)
    counted (Err e) h = tt

pub held_all : {A : Type 0} (P : A → Type 0) (xs : List A) → AllByRecursion P xs → All P xs
held_all P [] h = All-nil P
held_all P (x ∷ xs) h = All-cons P x xs h.0 (held_all P xs h.1)
