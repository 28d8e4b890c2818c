-- The first and the last step of a list that pass a test, by their places.
use Rattle.std.proofs.Common.{◌≡◌, ℕ, ◌+◌, ◌<◌, ◌≤◌, List, [], ◌∷◌, Bool, true, false, Some, None, Option, cond, drop, ltb, get_or, length, map, set, suc, refl, sym, ap, subst, ◌∙◌, ⊎_elim, append-nil, arith}
use Rattle.std.specs.Prelude.{filter, find, not, pos, option_and_then, option_map, position, remove, zero}
use Rattle.std.specs.List.{position_or_len, prefix_len}
use Rattle.std.specs.Option.{option_or}
use Rattle.std.proofs.lemmas.Bool.{cases_Bool}
use Rattle.std.proofs.lemmas.Bool.Decides.{nat_tests}
use Rattle.std.proofs.lemmas.List.{drop_all, drop_more, length-map, map-set, take_all}
use Rattle.std.proofs.Math.ListN.{get_or-map}
use Rattle.std.proofs.lemmas.List.Folds.{find_at}
use Rattle.std.proofs.lemmas.Option.{cond_some, none-some, same_Some, slice_get-get_or, slice_get-map, slice_get_past}
use Rattle.stream_watch.specs.Steps.{Running, Step, begin_of_running, last_place, last_step, running_view, runs_at, step_view, with_provisioner, without_first}
use Rattle.stream_watch.specs.declared.steps.OpenStep.{OpenStep}
use Rattle.stream_watch.specs.declared.steps.Provisioner.{Provisioner}

-- ---- through `map`

prefix_in : {A B : Type 0} (f : A → B) (p : B → Bool) (xs : List A) → prefix_len p (map f xs) ≡ prefix_len (λ x. p (f x)) xs
prefix_in f p [] = refl
prefix_in f p (x ∷ xs) = ap (λ n. cond (p (f x)) (1 + n) 0) (prefix_in f p xs)

pub position_in : {A B : Type 0} (f : A → B) (p : B → Bool) (xs : List A) → position p (map f xs) ≡ position (λ x. p (f x)) xs
position_in f p xs =
    ap (λ n. cond (ltb n (length (map f xs))) (Some n) None) (prefix_in f (λ x. not (p x)) xs)
    ∙ ap (λ l. cond (ltb (position_or_len (λ x. p (f x)) xs) l) (Some (position_or_len (λ x. p (f x)) xs)) None) (length-map xs f)

pub filter_in : {A B : Type 0} (f : A → B) (p : B → Bool) (xs : List A) → filter p (map f xs) ≡ map f (filter (λ x. p (f x)) xs)
filter_in f p [] = refl
filter_in {A} {B} f p (x ∷ xs) =
    ⊎_elim
    (λ (yes : p (f x) ≡ true). rw yes (ap (λ (ys : List B). f x ∷ ys) (filter_in f p xs)))
    (λ (no : p (f x) ≡ false). rw no (filter_in f p xs))
    (cases_Bool (p (f x)))

-- ---- the first one

one_more : (n : ℕ) → 1 + n ≡ suc n
one_more n = omega arith

without_place : {A B : Type 0} (f : A → B) (holds : B → Bool) (xs : List A)
    → without_first holds (map f xs) ≡ map f (remove xs (position_or_len holds (map f xs)))
without_place f holds [] = refl
without_place {A} {B} f holds (x ∷ xs) =
    ⊎_elim
    (λ (yes : holds (f x) ≡ true). rw yes refl)
    (λ (no : holds (f x) ≡ false).
    rw (no, one_more (position_or_len holds (map f xs))) (ap (λ (rest : List B). f x ∷ rest) (without_place f holds xs)))
    (cases_Bool (holds (f x)))

find_place : {A B : Type 0} (f : A → B) (holds : B → Bool) (xs : List A) (d : A) → position_or_len holds (map f xs) < length xs
    → find holds (map f xs) ≡ Some (f (get_or xs (position_or_len holds (map f xs)) d))
find_place f holds xs d within =
    find_at holds (map f xs)
    ∙ slice_get-map f xs (position_or_len holds (map f xs))
    ∙ ap (option_map f) (slice_get-get_or xs (position_or_len holds (map f xs)) d within)

-- `i` is the place of the first that passes
pub record IsFirst {A B : Type 0} (f : A → B) (holds : B → Bool) (xs : List A) (i : ℕ) (d : A) : Type 0 where
  pub within : i < length xs
  pub found : find holds (map f xs) ≡ Some (f (get_or xs i d))
  pub without : without_first holds (map f xs) ≡ map f (remove xs i)

pub first_is : {A B : Type 0} (f : A → B) (holds : B → Bool) (xs : List A) (i : ℕ) (d : A) → Some i ≡ position holds (map f xs) → IsFirst f holds xs i d
first_is f holds xs i d at =
    let n = position_or_len holds (map f xs) in
    let parts = cond_some (ltb n (length (map f xs))) n i (sym at) in
    let same : n ≡ i = parts.1 in
    let under : n < length (map f xs) = grind (arith, nat_tests, parts.0) in
    let within : n < length xs = omega (arith, under, length-map xs f) in
    record {
      within = omega (arith, within, same);
      found = find_place f holds xs d within ∙ ap (λ k. Some (f (get_or xs k d))) same;
      without = without_place f holds xs ∙ ap (λ k. map f (remove xs k)) same;
    }

-- a place past the end removes nothing
removed_past : {A : Type 0} (xs : List A) (n : ℕ) → length xs ≤ n → remove xs n ≡ xs
removed_past xs n past = rw (take_all n xs past, drop_all (suc n) xs (omega arith)) (append-nil xs)

-- none passes
pub record IsNowhere {A B : Type 0} (f : A → B) (holds : B → Bool) (xs : List A) : Type 0 where
  pub found : find holds (map f xs) ≡ None
  pub without : without_first holds (map f xs) ≡ map f xs

nowhere_past : {A B : Type 0} (f : A → B) (holds : B → Bool) (xs : List A) → length (map f xs) ≤ position_or_len holds (map f xs) → IsNowhere f holds xs
nowhere_past f holds xs past =
    let n = position_or_len holds (map f xs) in
    record {
      found = find_at holds (map f xs) ∙ slice_get_past (map f xs) n past;
      without = without_place f holds xs ∙ ap (map f) (removed_past xs n (omega (arith, past, length-map xs f)));
    }

pub nowhere : {A B : Type 0} (f : A → B) (holds : B → Bool) (xs : List A) → None ≡ position holds (map f xs) → IsNowhere f holds xs
nowhere f holds xs at =
    let n = position_or_len holds (map f xs) in
    ⊎_elim
    (λ (yes : ltb n (length (map f xs)) ≡ true). absurd (none-some n (at ∙ ap (λ b. cond b (Some n) None) yes)))
    (λ (no : ltb n (length (map f xs)) ≡ false). nowhere_past f holds xs (grind (arith, nat_tests, no)))
    (cases_Bool (ltb n (length (map f xs))))

-- ---- the last one

-- none passes, so that none is the last
pub record HasNoLast (holds : Step → Bool) (provisioner : Option Running) (xs : List Step) : Type 0 where
  pub found : last_step holds xs ≡ None
  pub written : with_provisioner holds provisioner xs ≡ xs

-- one step more in front, where `rest` is the last place after it
no_last_more : (holds : Step → Bool) (provisioner : Option Running) (x : Step) (xs : List Step) (rest : Option ℕ) → (None ≡ rest → HasNoLast holds provisioner xs)
    → None ≡ option_or (option_map suc rest) (cond (holds x) (Some 0) None) → HasNoLast holds provisioner (x ∷ xs)
no_last_more holds provisioner x xs (Some i) after none = absurd (none-some (suc i) none)
no_last_more holds provisioner x xs None after none =
    let behind = after refl in
    ⊎_elim
    (λ (passes : holds x ≡ true). absurd (none-some 0 (none ∙ ap (λ b. cond b (Some 0) None) passes)))
    (λ (fails : holds x ≡ false). record { found = rw (behind.found, fails) refl; written = rw (behind.found, fails) refl })
    (cases_Bool (holds x))

pub has_no_last : (holds : Step → Bool) (provisioner : Option Running) (xs : List Step) → None ≡ last_place holds xs → HasNoLast holds provisioner xs
has_no_last holds provisioner [] none = record { found = refl; written = refl }
has_no_last holds provisioner (x ∷ xs) none = no_last_more holds provisioner x xs (last_place holds xs) (has_no_last holds provisioner xs) none

-- `i` is the place of the last that passes
pub record IsLast (holds : Step → Bool) (provisioner : Option Running) (xs : List Step) (i : ℕ) (d : Step) : Type 0 where
  pub within : i < length xs
  pub found : last_step holds xs ≡ Some (get_or xs i d)
  pub written : with_provisioner holds provisioner xs ≡ set xs i (record (get_or xs i d) { provisioner = provisioner })

-- one step more in front of a list that has a last one
last_behind : (holds : Step → Bool) (provisioner : Option Running) (x : Step) (xs : List Step) (i : ℕ) (d : Step) → IsLast holds provisioner xs i d
    → IsLast holds provisioner (x ∷ xs) (suc i) d
last_behind holds provisioner x xs i d behind = record {
  within = let within = behind.within in omega arith;
  found = rw behind.found refl;
  written = rw behind.found (ap (λ (steps : List Step). x ∷ steps) behind.written);
}

-- and in front of a list that has none
last_in_front : (holds : Step → Bool) (provisioner : Option Running) (x : Step) (xs : List Step) (d : Step) → HasNoLast holds provisioner xs → holds x ≡ true
    → IsLast holds provisioner (x ∷ xs) 0 d
last_in_front holds provisioner x xs d behind passes = record {
  within = omega arith;
  found = rw (behind.found, passes) refl;
  written = rw (behind.found, passes) refl;
}

-- one step more in front, where `rest` is the last place after it
last_more : (holds : Step → Bool) (provisioner : Option Running) (x : Step) (xs : List Step) (i : ℕ) (d : Step) (rest : Option ℕ)
    → (None ≡ rest → HasNoLast holds provisioner xs) → ((k : ℕ) → Some k ≡ rest → IsLast holds provisioner xs k d)
    → Some i ≡ option_or (option_map suc rest) (cond (holds x) (Some 0) None) → IsLast holds provisioner (x ∷ xs) i d
last_more holds provisioner x xs i d (Some k) none some at =
    subst (λ n. IsLast holds provisioner (x ∷ xs) n d) (sym (same_Some i (suc k) at)) (last_behind holds provisioner x xs k d (some k refl))
last_more holds provisioner x xs i d None none some at =
    ⊎_elim
    (λ (passes : holds x ≡ true).
    subst (λ n. IsLast holds provisioner (x ∷ xs) n d) (sym (same_Some i 0 (at ∙ ap (λ b. cond b (Some 0) None) passes))) (last_in_front holds provisioner x xs d (none refl) passes))
    (λ (fails : holds x ≡ false). absurd (none-some i (sym (at ∙ ap (λ b. cond b (Some 0) None) fails))))
    (cases_Bool (holds x))

pub is_last : (holds : Step → Bool) (provisioner : Option Running) (xs : List Step) (i : ℕ) (d : Step) → Some i ≡ last_place holds xs → IsLast holds provisioner xs i d
is_last holds provisioner [] i d at = absurd (none-some i (sym at))
is_last holds provisioner (x ∷ xs) i d at =
    last_more holds provisioner x xs i d (last_place holds xs) (has_no_last holds provisioner xs) (λ k. is_last holds provisioner xs k d) at

get_mapped : {A : Type 0} (f : A → Step) (xs : List A) (i : ℕ) (x : A) → x ≡ get_or xs i x → get_or (map f xs) i (f x) ≡ f x
get_mapped f xs i x at = get_or-map f xs i x ∙ ap f (sym at)

-- the last one was found at place `i`, where `x` stood
pub last_mapped : {A : Type 0} (f : A → Step) (holds : Step → Bool) (xs : List A) (i : ℕ) (x : A) → x ≡ get_or xs i x → Some i ≡ last_place holds (map f xs)
    → last_step holds (map f xs) ≡ Some (f x)
last_mapped f holds xs i x at last =
    let is = is_last holds None (map f xs) i (f x) last in
    is.found ∙ ap (λ (step : Step). Some step) (get_mapped f xs i x at)

-- and then `y` was written there
pub last_written : {A : Type 0} (f : A → Step) (holds : Step → Bool) (provisioner : Option Running) (xs : List A) (i : ℕ) (x y : A)
    → x ≡ get_or xs i x → Some i ≡ last_place holds (map f xs) → f y ≡ record (f x) { provisioner = provisioner }
    → map f (set xs i y) ≡ with_provisioner holds provisioner (map f xs)
last_written f holds provisioner xs i x y at last made =
    let is = is_last holds provisioner (map f xs) i (f x) last in
    map-set f xs i y
    ∙ ap (set (map f xs) i) (made ∙ ap (λ (step : Step). record step { provisioner = provisioner }) (sym (get_mapped f xs i x at)))
    ∙ sym is.written

any_step : Step
any_step = record { address = []; action = []; kind = []; is_refresh = false; begin = pos 0; provisioner = None }

pub last_within : {A : Type 0} (f : A → Step) (holds : Step → Bool) (xs : List A) (i : ℕ) → Some i ≡ last_place holds (map f xs) → i < length xs
last_within f holds xs i last =
    let is = is_last holds None (map f xs) i any_step last in
    let within = is.within in
    omega (arith, length-map xs f)

begin_in : (running : Option Provisioner)
    → option_map (λ (r : Running). r.begin) (option_map running_view running) ≡ option_map (λ (provisioner : Provisioner). provisioner.begin) running
begin_in None = refl
begin_in (Some provisioner) = refl

-- the provisioner that runs where the last one was found
pub begin_at : (address : List ℕ) (xs : List OpenStep) (i : ℕ) (x : OpenStep) (running : Option Provisioner)
    → x ≡ get_or xs i x → Some i ≡ last_place (runs_at address) (map step_view xs) → running ≡ x.provisioner
    → begin_of_running address (map step_view xs) ≡ option_map (λ (provisioner : Provisioner). provisioner.begin) running
begin_at address xs i x running at last runs =
    ap (option_and_then (λ (step : Step). option_map (λ (r : Running). r.begin) step.provisioner)) (last_mapped step_view (runs_at address) xs i x at last)
    ∙ ap (λ r. option_map (λ (r : Running). r.begin) (option_map running_view r)) (sym runs)
    ∙ begin_in running

pub begin_nowhere : (address : List ℕ) (xs : List Step) → None ≡ last_place (runs_at address) xs → begin_of_running address xs ≡ None
begin_nowhere address xs none =
    let is = has_no_last (runs_at address) None xs none in
    ap (option_and_then (λ (step : Step). option_map (λ (r : Running). r.begin) step.provisioner)) is.found

-- ---- the last one, by a walk from the end

-- more steps in front of one that is the last
last_after : (holds : Step → Bool) (xs : List Step) (i : ℕ) → last_place holds (drop i xs) ≡ Some 0 → last_place holds xs ≡ Some i
last_after holds xs zero here = here
last_after holds [] (suc i) here = absurd (none-some 0 here)
last_after holds (x ∷ xs) (suc i) here = rw (last_after holds xs i here) refl

-- the steps from place `i` on begin with the one there
front_of : {A : Type 0} (f : A → Step) (xs : List A) (i n : ℕ) (x : A) → i < length xs → n ≡ i + 1 → x ≡ get_or xs i x
    → drop i (map f xs) ≡ f x ∷ drop n (map f xs)
front_of f xs i n x within next at =
    let inside : i < length (map f xs) = omega (arith, within, length-map xs f) in
    drop_more (map f xs) i (f x) inside
    ∙ ap (λ (step : Step). step ∷ drop (i + 1) (map f xs)) (get_mapped f xs i x at)
    ∙ ap (λ k. f x ∷ drop k (map f xs)) (sym next)

-- of the steps after `x` none passes, and `x` does
pub walk_ends : {A : Type 0} (f : A → Step) (holds : Step → Bool) (xs : List A) (i n : ℕ) (x : A) → i < length xs → n ≡ i + 1 → x ≡ get_or xs i x
    → last_place holds (drop n (map f xs)) ≡ None → holds (f x) ≡ true → last_place holds (map f xs) ≡ Some i
walk_ends f holds xs i n x within next at none passes =
    last_after holds (map f xs) i (rw (front_of f xs i n x within next at) (rw (none, passes) refl))

-- and `x` does not
pub walk_goes_on : {A : Type 0} (f : A → Step) (holds : Step → Bool) (xs : List A) (i n : ℕ) (x : A) → i < length xs → n ≡ i + 1 → x ≡ get_or xs i x
    → last_place holds (drop n (map f xs)) ≡ None → holds (f x) ≡ false → last_place holds (drop i (map f xs)) ≡ None
walk_goes_on f holds xs i n x within next at none fails = rw (front_of f xs i n x within next at) (rw (none, fails) refl)
