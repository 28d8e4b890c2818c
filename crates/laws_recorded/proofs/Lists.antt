-- What holds of each item of a list holds of each item that is left, or put in.
use Rattle.std.proofs.Common.{ℕ, zero, suc, List, [], ◌∷◌, ◌++◌, cond, drop, filter, take, Bool, true, false, Option, Some, None}
use Rattle.std.specs.Prelude.{IfSome, map, slice_get, slice_set}
use Rattle.std.specs.List.{AllByRecursion, cons_option, filter_map}

module _ {A : Type 0} (P : A → Type 0) where
  pub joined : (xs ys : List A) → AllByRecursion P xs → AllByRecursion P ys → AllByRecursion P (xs ++ ys)
  joined [] ys h k = k
  joined (x ∷ xs) ys h k = (h.0, joined xs ys h.1 k)

  one_or_none : (b : Bool) (x : A) (xs : List A) → P x → AllByRecursion P xs → AllByRecursion P (cond b (x ∷ xs) xs)
  one_or_none true x xs one h = (one, h)
  one_or_none false x xs one h = h

  pub filtered : (test : A → Bool) (xs : List A) → AllByRecursion P xs → AllByRecursion P (filter test xs)
  filtered test [] h = tt
  filtered test (x ∷ xs) h = one_or_none (test x) x (filter test xs) h.0 (filtered test xs h.1)

  pub taken : (n : ℕ) (xs : List A) → AllByRecursion P xs → AllByRecursion P (take n xs)
  taken zero xs h = tt
  taken (suc n) [] h = tt
  taken (suc n) (x ∷ xs) h = (h.0, taken n xs h.1)

  pub dropped : (n : ℕ) (xs : List A) → AllByRecursion P xs → AllByRecursion P (drop n xs)
  dropped zero xs h = h
  dropped (suc n) [] h = tt
  dropped (suc n) (x ∷ xs) h = dropped n xs h.1

  pub item_at : (xs : List A) (n : ℕ) → AllByRecursion P xs → IfSome (slice_get xs n) P
  item_at [] n h = tt
  item_at (x ∷ xs) zero h = h.0
  item_at (x ∷ xs) (suc n) h = item_at xs n h.1

  pub replaced : (xs : List A) (n : ℕ) (y : A) → AllByRecursion P xs → P y → AllByRecursion P (slice_set xs n y)
  replaced [] n y h one = tt
  replaced (x ∷ xs) zero y h one = (one, h.1)
  replaced (x ∷ xs) (suc n) y h one = (h.0, replaced xs n y h.1 one)

  pub with_option : (o : Option A) (xs : List A) → IfSome o P → AllByRecursion P xs → AllByRecursion P (cons_option o xs)
  with_option None xs one h = h
  with_option (Some x) xs one h = (one, h)

pub all_mapped : {A B : Type 0} (Q : B → Type 0) (f : A → B) (xs : List A) → ((x : A) → Q (f x)) → AllByRecursion Q (map f xs)
all_mapped Q f [] step = tt
all_mapped Q f (x ∷ xs) step = (step x, all_mapped Q f xs step)

pub given_ones : {A B : Type 0} (P : A → Type 0) (Q : B → Type 0) (f : A → Option B) (xs : List A) → ((x : A) → P x → IfSome (f x) Q) → AllByRecursion P xs → AllByRecursion Q (filter_map f xs)
given_ones P Q f [] step h = tt
given_ones P Q f (x ∷ xs) step h = with_option Q (f x) (filter_map f xs) (step x h.0) (given_ones P Q f xs step h.1)

pub each_weaker : {A : Type 0} (P Q : A → Type 0) (xs : List A) → ((x : A) → P x → Q x) → AllByRecursion P xs → AllByRecursion Q xs
each_weaker P Q [] step h = tt
each_weaker P Q (x ∷ xs) step h = (step x h.0, each_weaker P Q xs step h.1)
