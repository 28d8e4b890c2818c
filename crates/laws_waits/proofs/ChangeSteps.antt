-- What a recorded script states of a change.
use Rattle.std.proofs.Common.{◌≡◌, ◌∙◌, ◌+◌, ◌≤◌, ℕ, zero, suc, List, [], ◌∷◌, ◌++◌, length, Option, None, Some, refl, sym, ap, ap₂, arith, subst, ◌⊎◌, inl, inr, ⊎_elim}
use Rattle.std.specs.Prelude.{option_to_list, slice_get}
use Rattle.std.specs.List.{Contains, cons_option}
use Rattle.std.specs.Option.{option_map_or}
use Rattle.apply_model.specs.declared.plan.step_kind.StepKind.{StepKind}
use Rattle.apply_model.specs.declared.script.script_step.ScriptStep.{ScriptStep}
use Rattle.apply_model.specs.declared.script.wait.Wait.{Wait}
use Rattle.apply_model.specs.Plan.ResourceChange.{ResourceChange}
use Rattle.stream_record.specs.EvenScript.{steps_at, waits_at}
use Rattle.stream_record_outcomes.specs.declared.recorded_step.RecordedStep.{RecordedStep}
use Rattle.stream_record_waits.specs.declared.step_state.StepState.{StepState}
use Rattle.stream_record_script.specs.Steps.{first_steps, script_step, script_steps}
use Rattle.laws_waits.proofs.Increasing.{contains_first, contains_later, first_or_later}

-- ---- the kinds of a change

pub change_of_kind : (change : Option ResourceChange) (k : ℕ) (kind : StepKind) → slice_get (option_map_or (λ own. own.steps) change []) k ≡ Some kind
    → (own : ResourceChange) × (change ≡ Some own) × (slice_get own.steps k ≡ Some kind)
change_of_kind None k kind at = absurd cc
change_of_kind (Some own) k kind at = (own, refl, at)

pub kinds_from_first : (kinds : List StepKind) (kind : StepKind) → length kinds ≤ 2 → slice_get kinds 0 ≡ Some kind
    → (kinds ≡ kind ∷ []) ⊎ ((other : StepKind) × (kinds ≡ kind ∷ other ∷ []))
kinds_from_first [] kind few at = absurd cc
kinds_from_first (one ∷ []) kind few at = let same : one ≡ kind = cc in inl (ap (λ (x : StepKind). x ∷ []) same)
kinds_from_first (one ∷ (other ∷ [])) kind few at = let same : one ≡ kind = cc in inr (other, ap (λ (x : StepKind). x ∷ other ∷ []) same)
kinds_from_first (one ∷ (other ∷ (more ∷ kinds))) kind few at = absurd (omega (arith, few))

pub kinds_from_second : (kinds : List StepKind) (kind : StepKind) → length kinds ≤ 2 → slice_get kinds 1 ≡ Some kind → (first : StepKind) × (kinds ≡ first ∷ kind ∷ [])
kinds_from_second [] kind few at = absurd cc
kinds_from_second (one ∷ []) kind few at = absurd cc
kinds_from_second (one ∷ (other ∷ [])) kind few at = let same : other ≡ kind = cc in (one, ap (λ (x : StepKind). one ∷ x ∷ []) same)
kinds_from_second (one ∷ (other ∷ (more ∷ kinds))) kind few at = absurd (omega (arith, few))

-- ---- the first steps of a list

pub first_alone : (kind : StepKind) (items : List (Option ScriptStep)) (step : ScriptStep) → slice_get items 0 ≡ Some (Some step) → first_steps (kind ∷ []) items ≡ step ∷ []
first_alone kind [] step at = absurd cc
first_alone kind (item ∷ items) step at = let same : item ≡ Some step = cc in ap (λ (o : Option ScriptStep). option_to_list o ++ []) same

alone : (o : Option ScriptStep) → option_to_list o ++ [] ≡ option_to_list o
alone None = refl
alone (Some step) = refl

pub first_two : (kind other : StepKind) (items : List (Option ScriptStep)) (step : ScriptStep) (second : Option ScriptStep) → slice_get items 0 ≡ Some (Some step) → slice_get items 1 ≡ Some second
    → first_steps (kind ∷ other ∷ []) items ≡ step ∷ option_to_list second
first_two kind other [] step second at next = absurd cc
first_two kind other (item ∷ []) step second at next = absurd cc
first_two kind other (item ∷ (more ∷ items)) step second at next =
    let same : item ≡ Some step = cc in
    let same_next : more ≡ second = cc in
    ap₂ (λ (o p : Option ScriptStep). option_to_list o ++ (option_to_list p ++ [])) same same_next ∙ ap (λ (steps : List ScriptStep). step ∷ steps) (alone second)

-- ---- the items of a list

pub item_at : (planned : List Wait) (waits : List (List ℕ)) (place : ℕ) (recorded : List (Option RecordedStep)) (states : List StepState) (i : ℕ) (found : Option RecordedStep) (state : StepState)
    → slice_get recorded i ≡ Some found → slice_get states i ≡ Some state
    → slice_get (script_steps planned waits place recorded states) i ≡ Some (script_step state found (steps_at planned (waits_at waits (place + i))))
item_at planned waits place [] states i found state has is = absurd cc
item_at planned waits place (one ∷ recorded) [] i found state has is = absurd cc
item_at planned waits place (one ∷ recorded) (now ∷ states) zero found state has is =
    let same : one ≡ found = cc in
    let same_now : now ≡ state = cc in
    let here : place ≡ place + 0 = omega arith in
    ap₂ (λ (s : StepState) (o : Option RecordedStep). Some (script_step s o (steps_at planned (waits_at waits place)))) same_now same
    ∙ ap (λ (p : ℕ). Some (script_step state found (steps_at planned (waits_at waits p)))) here
item_at planned waits place (one ∷ recorded) (now ∷ states) (suc i) found state has is =
    let here : place + 1 + i ≡ place + suc i = omega arith in
    item_at planned waits (place + 1) recorded states i found state has is
    ∙ ap (λ (p : ℕ). Some (script_step state found (steps_at planned (waits_at waits p)))) here

-- ---- the steps with some numbers

pub named_at : (planned : List Wait) (numbers : List ℕ) (number : ℕ) (name : Wait) → slice_get planned number ≡ Some name → Contains numbers number → Contains (steps_at planned numbers) name
named_at planned [] number name at (k, less, is) = absurd (omega (arith, less))
named_at planned (n ∷ numbers) number name at has = by (slice_get planned n) refl (named_at planned numbers number name at)
  where
    by : (o : Option Wait) → slice_get planned n ≡ o → (Contains numbers number → Contains (steps_at planned numbers) name) → Contains (cons_option o (steps_at planned numbers)) name
    by None none rest = ⊎_elim
        (λ (first : n ≡ number). let both : Some name ≡ None = sym at ∙ ap (slice_get planned) (sym first) ∙ none in absurd cc)
        (λ (later : Contains numbers number). rest later)
        (first_or_later n number numbers has)
    by (Some one) some rest = ⊎_elim
        (λ (first : n ≡ number).
        let both : Some one ≡ Some name = sym some ∙ ap (slice_get planned) first ∙ at in
        let same : one ≡ name = cc in subst (Contains (one ∷ steps_at planned numbers)) same (contains_first one (steps_at planned numbers)))
        (λ (later : Contains numbers number). contains_later one name (steps_at planned numbers) (rest later))
        (first_or_later n number numbers has)
