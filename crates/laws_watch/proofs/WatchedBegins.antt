-- When the open steps of an action and address began, as `watch` knows it, and how a message
-- changes that.
use Rattle.std.proofs.Common.{◌≡◌, ◌∙◌, ℕ, ◌==◌, ◌∷◌, ◌++◌, [], Bool, List, Option, None, Some, true, false, not, ⊎_elim, ap, ap₂, append-nil, codes, drop, map, refl}
use Rattle.std.specs.Prelude.{ℤ, ◌&&◌, filter, find, if◌then◌else◌, is_some}
use Rattle.std.specs.Option.{option_map_or}
use Rattle.std.specs.Str.{bytes_eq}
use Rattle.std.proofs.Math.Bool.{and-false}
use Rattle.std.proofs.lemmas.Bool.{and_parts, cases_Bool}
use Rattle.std.proofs.lemmas.List.{map-append}
use Rattle.std.proofs.lemmas.List.Elements.{filter-append}
use Rattle.apply_json.proofs.Held.{is_name}
use Rattle.stream_watch.specs.Counts.{is_change}
use Rattle.stream_watch.specs.Noted.{with_length_of, with_noted}
use Rattle.stream_watch.specs.RefreshRow.{reported_told}
use Rattle.stream_watch.specs.State.{State, nothing}
use Rattle.stream_watch.specs.Steps.{Running, Step, is_step, last_step, new_step, reads_at, with_provisioner, without_first}
use Rattle.stream_watch.specs.StepRows.{told_before}
use Rattle.stream_watch.specs.declared.looks.Looks.{Looks}
use Rattle.laws_watch.proofs.FirstOnes.{kept-chosen, without-chosen, without-other}

-- when the steps of this action and address began that are open
abbrev pub watched_begins : (address action : List ℕ) → List Step → List ℤ
watched_begins address action steps = map (λ (step : Step). step.begin) (filter (is_step address action false) steps)

-- whether these are the address and the action
abbrev pub is_key : (address action : List ℕ) → (other_address other_action : List ℕ) → Bool
is_key address action other_address other_action = bytes_eq other_address address && bytes_eq other_action action

-- one more begin, or the first one taken away, if the address and the action are these
abbrev pub with_key_begin : (is_key : Bool) → ℤ → List ℤ → List ℤ
with_key_begin is_key moment begins = if is_key then begins ++ moment ∷ [] else begins

abbrev pub with_key_end : (is_key : Bool) → List ℤ → List ℤ
with_key_end is_key begins = if is_key then drop 1 begins else begins

-- ---- the steps that a state has

pub reported-steps : (looks : Looks) (state : State) → (reported_told looks state).state.steps ≡ state.steps
reported-steps looks state =
    ⊎_elim (λ (none : (state.refreshes.unreported == 0) ≡ true). rw none refl) (λ (some : (state.refreshes.unreported == 0) ≡ false). rw some refl)
    (cases_Bool (state.refreshes.unreported == 0))

pub before-steps : (looks : Looks) (state : State) (action : List ℕ) → (told_before looks state action).state.steps ≡ state.steps
before-steps looks state action = by (is_change action)
  where
    by : (test : Bool) → (if test then reported_told looks state else nothing state).state.steps ≡ state.steps
    by true = reported-steps looks state
    by false = refl

pub noted-steps : (holds : Step → Bool) (moment : ℤ) (state : State) → (with_noted holds moment state).steps ≡ state.steps
noted-steps holds moment state = by (find holds state.steps)
  where
    by : (step : Option Step) → (option_map_or (with_length_of moment state) step state).steps ≡ state.steps
    by None = refl
    by (Some step) = refl

module _ (address action : List ℕ) where
  abbrev keyed : Step → Bool
  keyed step = is_step address action false step

  abbrev begins : List Step → List ℤ
  begins steps = watched_begins address action steps

  -- ---- a step begins

  pub begins-begun : (other_address other_action kind : List ℕ) (moment : ℤ) (steps : List Step)
      → begins (steps ++ new_step other_address other_action kind false moment ∷ []) ≡ with_key_begin (is_key address action other_address other_action) moment (begins steps)
  begins-begun other_address other_action kind moment steps =
      let one = new_step other_address other_action kind false moment in
      let split : begins (steps ++ one ∷ []) ≡ begins steps ++ begins (one ∷ []) =
      ap (map (λ (step : Step). step.begin)) (filter-append keyed steps (one ∷ [])) ∙ map-append (λ (step : Step). step.begin) (filter keyed steps) (filter keyed (one ∷ [])) in
      ⊎_elim
      (λ (same : is_key address action other_address other_action ≡ true).
      let parts = and_parts (bytes_eq other_address address) (bytes_eq other_action action) same in
      let chosen : begins (one ∷ []) ≡ moment ∷ [] = rw (parts.0, parts.1) refl in
      rw same (split ∙ ap (λ t. begins steps ++ t) chosen))
      (λ (apart : is_key address action other_address other_action ≡ false).
      let passed : begins (one ∷ []) ≡ [] = rw apart refl in
      rw apart (split ∙ ap (λ t. begins steps ++ t) passed ∙ append-nil (begins steps)))
      (cases_Bool (is_key address action other_address other_action))

  -- a refresh begins
  pub begins-refresh : (other_address kind : List ℕ) (moment : ℤ) (steps : List Step)
      → begins (steps ++ new_step other_address (codes "refresh") kind true moment ∷ []) ≡ begins steps
  begins-refresh other_address kind moment steps =
      let one = new_step other_address (codes "refresh") kind true moment in
      let passed : begins (one ∷ []) ≡ [] = rw (and-false (bytes_eq other_address address && bytes_eq (codes "refresh") action)) refl in
      ap (map (λ (step : Step). step.begin)) (filter-append keyed steps (one ∷ []))
      ∙ map-append (λ (step : Step). step.begin) (filter keyed steps) (filter keyed (one ∷ [])) ∙ ap (λ t. begins steps ++ t) passed ∙ append-nil (begins steps)

  -- ---- a step ends

  -- a step that is another one is not one of these
  other_step : (other_address other_action : List ℕ) (step : Step) → is_key address action other_address other_action ≡ false
      → is_step other_address other_action false step ≡ true → keyed step ≡ false
  other_step other_address other_action step apart is =
      let both = and_parts _ _ is in
      let names = and_parts _ _ both.0 in
      let one : step.address ≡ other_address = is_name step.address other_address names.0 in
      let two : step.action ≡ other_action = is_name step.action other_action names.1 in
      ap₂ (λ x y. bytes_eq x address && bytes_eq y action && not step.is_refresh) one two ∙ ap (λ test. test && not step.is_refresh) apart

  pub begins-ended : (other_address other_action : List ℕ) (steps : List Step)
      → begins (without_first (is_step other_address other_action false) steps) ≡ with_key_end (is_key address action other_address other_action) (begins steps)
  begins-ended other_address other_action steps =
      ⊎_elim
      (λ (same : is_key address action other_address other_action ≡ true).
      let parts = and_parts _ _ same in
      let one : other_address ≡ address = is_name other_address address parts.0 in
      let two : other_action ≡ action = is_name other_action action parts.1 in
      let left : filter keyed (without_first (is_step other_address other_action false) steps) ≡ drop 1 (filter keyed steps) =
      ap₂ (λ x y. filter keyed (without_first (is_step x y false) steps)) one two ∙ without-chosen keyed steps in
      rw same (ap (map (λ (step : Step). step.begin)) left ∙ mapped_drop (filter keyed steps)))
      (λ (apart : is_key address action other_address other_action ≡ false).
      rw apart
      (ap (map (λ (step : Step). step.begin))
      (without-other (is_step other_address other_action false) keyed steps (λ step is. other_step other_address other_action step apart is))))
      (cases_Bool (is_key address action other_address other_action))
    where
      mapped_drop : (xs : List Step) → map (λ (step : Step). step.begin) (drop 1 xs) ≡ drop 1 (map (λ (step : Step). step.begin) xs)
      mapped_drop [] = refl
      mapped_drop (x ∷ xs) = refl

  -- a refresh ends
  pub begins-refreshed : (other_address other_action : List ℕ) (steps : List Step)
      → begins (without_first (is_step other_address other_action true) steps) ≡ begins steps
  begins-refreshed other_address other_action steps =
      ap (map (λ (step : Step). step.begin))
      (without-other (is_step other_address other_action true) keyed steps (λ step is.
      let role : step.is_refresh ≡ true = (and_parts _ _ is).1 in
      ap (λ r. bytes_eq step.address address && bytes_eq step.action action && not r) role ∙ and-false (bytes_eq step.address address && bytes_eq step.action action)))

  -- ---- a provisioner begins or ends

  pub begins-provisioner : (holds : Step → Bool) (provisioner : Option Running) (steps : List Step) → begins (with_provisioner holds provisioner steps) ≡ begins steps
  begins-provisioner holds provisioner [] = refl
  begins-provisioner holds provisioner (step ∷ steps) =
      either (is_some (last_step holds steps)) _ _ (behind step (with_provisioner holds provisioner steps) steps (begins-provisioner holds provisioner steps))
      (either (holds step) _ _ (changed step steps) refl)
    where
      either : (test : Bool) (xs ys : List Step) → begins xs ≡ begins (step ∷ steps) → begins ys ≡ begins (step ∷ steps) → begins (if test then xs else ys) ≡ begins (step ∷ steps)
      either true xs ys then_is else_is = then_is
      either false xs ys then_is else_is = else_is

      behind : (step : Step) (xs ys : List Step) → begins xs ≡ begins ys → begins (step ∷ xs) ≡ begins (step ∷ ys)
      behind step xs ys same =
          ⊎_elim (λ (chosen : keyed step ≡ true). rw chosen (ap (λ t. step.begin ∷ t) same)) (λ (passed : keyed step ≡ false). rw passed same) (cases_Bool (keyed step))

      changed : (step : Step) (xs : List Step) → begins (record step { provisioner = provisioner } ∷ xs) ≡ begins (step ∷ xs)
      changed step xs = ⊎_elim (λ (chosen : keyed step ≡ true). rw chosen refl) (λ (passed : keyed step ≡ false). rw passed refl) (cases_Bool (keyed step))

  -- ---- a diagnostic closes reads

  pub begins-read : (closed : List ℕ) (steps : List Step) → (bytes_eq address closed && bytes_eq action (codes "read")) ≡ false
      → begins (filter (λ step. not (reads_at closed step)) steps) ≡ begins steps
  begins-read closed steps open_still =
      ap (map (λ (step : Step). step.begin))
      (kept-chosen (λ step. not (reads_at closed step)) keyed steps (λ step is.
      let both = and_parts _ _ is in
      let names = and_parts _ _ both.0 in
      let one : step.address ≡ address = is_name step.address address names.0 in
      let two : step.action ≡ action = is_name step.action action names.1 in
      ap not (ap₂ (λ x y. bytes_eq x closed && bytes_eq y (codes "read") && not step.is_refresh) one two ∙ ap (λ test. test && not step.is_refresh) open_still)))
