-- Lists of which some elements are chosen, and the first one that passes a test.
use Rattle.std.proofs.Common.{◌≡◌, ◌∙◌, ℕ, suc, ◌+◌, ◌∷◌, [], Bool, List, Option, None, Some, true, false, ⊎_elim, ap, arith, drop, get_or, refl, sym}
use Rattle.std.specs.Prelude.{filter, find, if◌then◌else◌, option_map}
use Rattle.std.specs.Option.{option_map_or}
use Rattle.std.proofs.lemmas.Bool.{cases_Bool}
use Rattle.stream_timeline.specs.Steps.{at_place, first_of, places, places_from}
use Rattle.stream_watch.specs.Steps.{without_first}

from_later : (o : Option ℕ) (place : ℕ) → option_map suc o ≡ Some place → (n : ℕ) × (o ≡ Some n) × (place ≡ suc n)
from_later None place is = absurd (cc)
from_later (Some n) place is = (n, refl, cc)

module _ {A : Type 0} where
  -- ---- chosen elements

  kept_first : (test : A → Bool) (x : A) (xs : List A) → test x ≡ true → filter test (x ∷ xs) ≡ x ∷ filter test xs
  kept_first test x xs chosen = rw chosen refl

  passed_first : (test : A → Bool) (x : A) (xs : List A) → test x ≡ false → filter test (x ∷ xs) ≡ filter test xs
  passed_first test x xs passed = rw passed refl

  -- the first chosen element is left out
  pub without-chosen : (test : A → Bool) (xs : List A) → filter test (without_first test xs) ≡ drop 1 (filter test xs)
  without-chosen test [] = refl
  without-chosen test (x ∷ xs) =
      ⊎_elim
      (λ (yes : test x ≡ true). rw yes refl)
      (λ (out : test x ≡ false). rw out (passed_first test x (without_first test xs) out ∙ without-chosen test xs))
      (cases_Bool (test x))

  -- an element that is not chosen is left out
  pub without-other : (holds test : A → Bool) (xs : List A) → ((x : A) → holds x ≡ true → test x ≡ false) → filter test (without_first holds xs) ≡ filter test xs
  without-other holds test [] other = refl
  without-other holds test (x ∷ xs) other =
      ⊎_elim
      (λ (yes : holds x ≡ true). rw yes (sym (passed_first test x xs (other x yes))))
      (λ (out : holds x ≡ false).
      rw out
      (⊎_elim
      (λ (chosen : test x ≡ true).
      kept_first test x (without_first holds xs) chosen ∙ ap (λ t. x ∷ t) (without-other holds test xs other) ∙ sym (kept_first test x xs chosen))
      (λ (passed : test x ≡ false). passed_first test x (without_first holds xs) passed ∙ without-other holds test xs other ∙ sym (passed_first test x xs passed))
      (cases_Bool (test x))))
      (cases_Bool (holds x))

  -- only elements that are not chosen are left out
  pub kept-chosen : (kept test : A → Bool) (xs : List A) → ((x : A) → test x ≡ true → kept x ≡ true) → filter test (filter kept xs) ≡ filter test xs
  kept-chosen kept test [] all = refl
  kept-chosen kept test (x ∷ xs) all =
      ⊎_elim
      (λ (chosen : test x ≡ true).
      ap (filter test) (kept_first kept x xs (all x chosen)) ∙ kept_first test x (filter kept xs) chosen ∙ ap (λ t. x ∷ t) (kept-chosen kept test xs all)
      ∙ sym (kept_first test x xs chosen))
      (λ (passed : test x ≡ false).
      ⊎_elim
      (λ (yes : kept x ≡ true).
      ap (filter test) (kept_first kept x xs yes) ∙ passed_first test x (filter kept xs) passed ∙ kept-chosen kept test xs all ∙ sym (passed_first test x xs passed))
      (λ (out : kept x ≡ false). ap (filter test) (passed_first kept x xs out) ∙ kept-chosen kept test xs all ∙ sym (passed_first test x xs passed))
      (cases_Bool (kept x)))
      (cases_Bool (test x))

  -- the first chosen element is the first that passes
  pub find-chosen : (test : A → Bool) (xs : List A) → find test xs ≡ first_of (filter test xs)
  find-chosen test [] = refl
  find-chosen test (x ∷ xs) =
      ⊎_elim
      (λ (yes : test x ≡ true). rw yes refl)
      (λ (out : test x ≡ false). rw out (find-chosen test xs))
      (cases_Bool (test x))

  -- ---- changed elements

  -- the list with the first element that passes changed
  abbrev pub first_changed : (test : A → Bool) → (change : A → A) → List A → List A
  first_changed test change [] = []
  first_changed test change (x ∷ xs) = if test x then change x ∷ xs else x ∷ first_changed test change xs

  later_place : (test : A → Bool) (n : ℕ) (xs : List A) → first_of (places_from (n + 1) test xs) ≡ option_map suc (first_of (places_from n test xs))
  later_place test n [] = refl
  later_place test n (x ∷ xs) =
      ⊎_elim
      (λ (yes : test x ≡ true). let next : n + 1 ≡ suc n = omega arith in rw yes (ap Some next))
      (λ (out : test x ≡ false). rw out (later_place test (n + 1) xs))
      (cases_Bool (test x))

  changed_later : (place : Option ℕ) (x : A) (xs : List A) (change : A → A)
      → option_map_or (λ n. at_place n change (x ∷ xs)) (option_map suc place) (x ∷ xs) ≡ x ∷ option_map_or (λ n. at_place n change xs) place xs
  changed_later None x xs change = refl
  changed_later (Some n) x xs change = refl

  pub at_first_place : (test : A → Bool) (change : A → A) (xs : List A)
      → option_map_or (λ n. at_place n change xs) (first_of (places test xs)) xs ≡ first_changed test change xs
  at_first_place test change [] = refl
  at_first_place test change (x ∷ xs) =
      ⊎_elim
      (λ (yes : test x ≡ true). rw yes refl)
      (λ (out : test x ≡ false).
      rw out
      (ap (λ place. option_map_or (λ n. at_place n change (x ∷ xs)) place (x ∷ xs)) (later_place test 0 xs)
      ∙ changed_later (first_of (places test xs)) x xs change ∙ ap (λ t. x ∷ t) (at_first_place test change xs)))
      (cases_Bool (test x))

  -- what stands at the first place
  pub record StandsFirst (test : A → Bool) (xs : List A) (place : ℕ) : Type 0 where
    pub element : A
    pub passes : test element ≡ true
    pub is : (d : A) → get_or xs place d ≡ element
    pub chosen : List A
    pub first : filter test xs ≡ element ∷ chosen
    pub changed : (change : A → A) (d : A) → get_or (at_place place change xs) place d ≡ change element

  pub stands_first : (test : A → Bool) (xs : List A) (place : ℕ) → first_of (places test xs) ≡ Some place → StandsFirst test xs place
  stands_first test [] place is = absurd (cc)
  stands_first test (x ∷ xs) place is =
      ⊎_elim
      (λ (yes : test x ≡ true).
      let here : place ≡ 0 = cc (rw yes at is) in
      rw here
      (record { element = x; passes = yes; is = λ d. refl; chosen = filter test xs; first = kept_first test x xs yes; changed = λ change d. refl }))
      (λ (out : test x ≡ false).
      let next : first_of (places_from (0 + 1) test xs) ≡ Some place = rw out at is in
      let later : option_map suc (first_of (places test xs)) ≡ Some place = sym (later_place test 0 xs) ∙ next in
      let found = from_later (first_of (places test xs)) place later in
      let rest = stands_first test xs found.0 found.1 in
      rw found.2
      (record {
        element = rest.element;
        passes = rest.passes;
        is = rest.is;
        chosen = rest.chosen;
        first = passed_first test x xs out ∙ rest.first;
        changed = rest.changed;
      }))
      (cases_Bool (test x))
