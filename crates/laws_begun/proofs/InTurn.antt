-- The events of a change: those of its first step, then those of its second.
use Rattle.std.proofs.Common.{◌≡◌, ◌∙◌, ◌<◌, ℕ, Bool, true, false, cond, eqb, List, [], ◌∷◌, ◌++◌, filter, refl, sym, ap, arith, ◌⊎◌, inl, inr, ⊎_elim}
use Rattle.std.specs.Prelude.{◌&&◌}
use Rattle.std.specs.List.{Contains, list_any}
use Rattle.std.proofs.lemmas.Bool.{cases_eq, eq-eqb, eqb-true, ne_eqb}
use Rattle.apply_events.specs.declared.event.Event.{Event}
use Rattle.apply_events.proofs.Waits.Members.{any_in, filter_no, in_head, in_tail}
use Rattle.laws_begun.specs.Followed.{events_of_step, is_of_change, is_of_step}

filtered : {X : Type 0} (p q : X → Bool) (x : X) (xs : List X) (a b : Bool) → p x ≡ a → q x ≡ b → filter p (filter q xs) ≡ filter q (filter p xs)
    → filter p (cond b (x ∷ filter q xs) (filter q xs)) ≡ filter q (cond a (x ∷ filter p xs) (filter p xs))
filtered p q x xs true true one other rest =
    ap (λ t. cond t (x ∷ filter p (filter q xs)) (filter p (filter q xs))) one ∙ ap (λ l. x ∷ l) rest ∙ sym (ap (λ t. cond t (x ∷ filter q (filter p xs)) (filter q (filter p xs))) other)
filtered p q x xs true false one other rest = rest ∙ sym (ap (λ t. cond t (x ∷ filter q (filter p xs)) (filter q (filter p xs))) other)
filtered p q x xs false true one other rest = ap (λ t. cond t (x ∷ filter p (filter q xs)) (filter p (filter q xs))) one ∙ rest
filtered p q x xs false false one other rest = rest

-- two tests, one after the other, in either order
pub filters_commute : {X : Type 0} (p q : X → Bool) (xs : List X) → filter p (filter q xs) ≡ filter q (filter p xs)
filters_commute p q [] = refl
filters_commute p q (x ∷ xs) = filtered p q x xs (p x) (q x) refl refl (filters_commute p q xs)

-- no event among those of which none is
pub none_among : (c k : ℕ) (events : List Event) → list_any (is_of_step c k) events ≡ false → events_of_step c k events ≡ []
none_among c k events none = filter_no (is_of_step c k) events (λ e has is. let both : true ≡ false = sym (any_in (is_of_step c k) events e has is) ∙ none in cc)

-- after an event of the second step comes none of the first
abbrev pub ComesLate : (c : ℕ) → List Event → Type 0
ComesLate c events = (before after : List Event) (event : Event) → events ≡ before ++ event ∷ after → event.change ≡ c → event.step ≡ 1 → list_any (is_of_step c 0) after ≡ false

-- the events of the two steps, by which of them the next event is of
two_parts : (event : Event) (all first second : List Event) (t a b : Bool) → all ≡ first ++ second
    → (t ≡ true → ((a ≡ true) × (b ≡ false)) ⊎ ((a ≡ false) × (b ≡ true) × (first ≡ [])))
    → cond t (event ∷ all) all ≡ cond (t && a) (event ∷ first) first ++ cond (t && b) (event ∷ second) second
two_parts event all first second false a b rest which = rest
two_parts event all first second true a b rest which = ⊎_elim
    (λ (one : (a ≡ true) × (b ≡ false)).
    ap (λ l. event ∷ l) rest
    ∙ sym (ap (λ t. cond t (event ∷ first) first ++ cond b (event ∷ second) second) one.0 ∙ ap (λ t. (event ∷ first) ++ cond t (event ∷ second) second) one.1))
    (λ (other : (a ≡ false) × (b ≡ true) × (first ≡ [])).
    ap (λ l. event ∷ l) (rest ∙ ap (λ l. l ++ second) other.2)
    ∙ sym (ap (λ t. cond t (event ∷ first) first ++ cond b (event ∷ second) second) other.0 ∙ ap (λ t. first ++ cond t (event ∷ second) second) other.1 ∙ ap (λ l. l ++ event ∷ second) other.2))
    (which refl)

pub parts_in_turn : (c : ℕ) (events : List Event) → ((event : Event) → Contains events event → event.change ≡ c → event.step < 2) → ComesLate c events
    → filter (is_of_change c) events ≡ events_of_step c 0 events ++ events_of_step c 1 events
parts_in_turn c [] few late = refl
parts_in_turn c (event ∷ events) few late =
    two_parts event (filter (is_of_change c) events) (events_of_step c 0 events) (events_of_step c 1 events) (eqb event.change c) (eqb event.step 0) (eqb event.step 1)
    (parts_in_turn c events (λ other has is. few other (in_tail event events other has) is) (λ before after other is. late (event ∷ before) after other (ap (λ l. event ∷ l) is)))
    (λ own. ⊎_elim
    (λ (zeroth : event.step ≡ 0).
    let other : event.step ≡ 1 → ⊥ = λ is. omega (arith, zeroth, is) in
    inl (eq-eqb event.step 0 zeroth, ne_eqb event.step 1 other))
    (λ (later : event.step ≡ 0 → ⊥).
    let change = eqb-true event.change c own in
    let less = few event (in_head event events) change in
    let first : event.step ≡ 1 = omega (arith, less, later) in
    inr (ne_eqb event.step 0 later, eq-eqb event.step 1 first, none_among c 0 events (late [] events event refl change first)))
    (cases_eq event.step 0))
