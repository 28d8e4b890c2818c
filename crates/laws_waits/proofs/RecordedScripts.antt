-- A recorded script has the steps that began, and each other step is left out or held up.
use Rattle.std.proofs.Common.{◌≡◌, ◌∙◌, ◌+◌, ◌<◌, ◌≤◌, ℕ, zero, suc, true, false, eqb, List, [], ◌∷◌, drop, length, Option, None, Some, refl, sym, ap, arith, subst, ◌⊎◌, inl, inr, ⊎_elim}
use Rattle.std.specs.Prelude.{option_and_then, option_map, option_to_list, slice_get}
use Rattle.std.specs.List.{Contains}
use Rattle.std.specs.Option.{option_flatten, option_map_or}
use Rattle.std.proofs.lemmas.List.Elements.{All-contains}
use Rattle.std.proofs.lemmas.Option.{slice_get_within, unwrap_or-slice_get}
use Rattle.apply_model.specs.declared.plan.step_kind.StepKind.{StepKind}
use Rattle.apply_model.specs.declared.script.ending.Ending.TheVariants.{Done}
use Rattle.apply_model.specs.declared.script.outcome.Outcome.{Outcome}
use Rattle.apply_model.specs.declared.script.script_step.ScriptStep.{ScriptStep}
use Rattle.apply_model.specs.declared.script.script_step.ScriptStep.TheVariants.{Answered, Skipped}
use Rattle.apply_model.specs.declared.script.wait.Wait.{Wait}
use Rattle.apply_model.specs.Plan.ResourceChange.{ResourceChange}
use Rattle.apply_model.specs.Plan.SavedPlan.{SavedPlan}
use Rattle.apply_model.specs.Script.OutcomeMap.{OutcomeMap, outcome_of, stated_steps}
use Rattle.apply_events.specs.Step.{kinds_applied, kinds_of}
use Rattle.stream_record.specs.EvenScript as even
use Rattle.stream_record.specs.EvenScript.{even_step, steps_at}
use Rattle.stream_record_outcomes.specs.declared.recorded_step.RecordedStep.{RecordedStep}
use Rattle.stream_record_steps.specs.Begun.{Begun}
use Rattle.stream_record_steps.specs.Steps.{PlannedStep}
use Rattle.stream_record_waits.specs.declared.step_of_plan.StepOfPlan.{StepOfPlan}
use Rattle.stream_record_waits.specs.declared.step_state.StepState.{StepState}
use Rattle.stream_record_waits.specs.declared.step_state.StepState.TheVariants as state
use Rattle.stream_record_waits.specs.Graph.{waits_at}
use Rattle.stream_record_waits.specs.States.{ends_change, holds_up, is_explained, state_at, state_of, states_of}
use Rattle.stream_record_waits.specs.Steps.{has_begun, step_at}
use Rattle.stream_record_script.specs.Runs.{recorded_at, steps_of_plan}
use Rattle.stream_record_script.specs.Steps.{first_steps, script_step, script_steps}
use Rattle.laws_recorded.proofs.Items.{change_steps, get_drop}
use Rattle.laws_recorded.proofs.Places.{base}
use Rattle.laws_recorded.proofs.Planned.{wait_at}
use Rattle.laws_recorded.proofs.Ranked.{range_got}
use Rattle.laws_recorded.proofs.RunOrder.{as_many, has_run, step_there}
use Rattle.laws_recorded.proofs.Stated.{item_there}
use Rattle.laws_recorded.proofs.StatesOf.{began}
use Rattle.laws_waits.specs.Places.{name_of, place_of}
use Rattle.laws_waits.specs.Scripts.{AreOfPlan, HasStepsThatBegan, IsAppliedAs, IsHeldUp, recorded_script, waits_named}
use Rattle.laws_waits.proofs.Applied.{both_applied, first_applied, none_applied, one_applied, outcome_at}
use Rattle.laws_waits.proofs.ChangeSteps.{change_of_kind, first_alone, first_two, item_at, kinds_from_first, kinds_from_second, named_at}
use Rattle.laws_waits.proofs.Increasing.{contains_first, contains_later}
use Rattle.laws_waits.proofs.StatesAt.{IsHeldBy, ends_or_not, explained_alone, explained_later, first_state, later_state, none_before, one_before, state_begun, state_not_begun}
use Rattle.laws_waits.proofs.StepPlaces.{in_script, in_stream, planned_step, same_place}

-- ---- the item of a step

-- the outcome of a step that takes a second
abbrev even_outcome : List Wait → Outcome
even_outcome after = record { seconds = 1; provisioners = []; result = Done None None; after = after }

answered_item : (now : StepState) (found : Option RecordedStep) (after : List Wait) → ends_change now ≡ false → (now ≡ state.Began → (one : RecordedStep) × (found ≡ Some one))
    → (outcome : Outcome) × (script_step now found after ≡ Some (Answered outcome))
answered_item state.Began found after on has = let one = has refl in (record one.0.outcome { after = after }, ap (λ (o : Option RecordedStep). script_step state.Began o after) one.1)
answered_item state.Answered found after on has = (even_outcome after, refl)
answered_item state.Skipped found after on has = absurd cc
answered_item state.Absent found after on has = absurd cc

module _ (plan : SavedPlan) (begun : Begun) (recorded : List (Option RecordedStep)) (after : List (List ℕ)) (are : AreOfPlan plan begun recorded after) where
  abbrev steps : List StepOfPlan
  steps = steps_of_plan begun recorded

  abbrev script : OutcomeMap
  script = recorded_script plan begun recorded after

  abbrev items : List (Option ScriptStep)
  items = script_steps (even.planned_steps plan.changes) after 0 recorded (states_of (steps_of_plan begun recorded) after)

  abbrev place : (c k : ℕ) → ℕ
  place c k = place_of plan.changes c k

  abbrev waits : (c k : ℕ) → List Wait
  waits c k = waits_named plan after (place_of plan.changes c k)

  abbrev now : (c k : ℕ) → StepState
  now c k = state_at steps after (place c k)

  abbrev item : (c k : ℕ) → Option ScriptStep
  item c k = script_step (now c k) (recorded_at recorded (place c k)) (waits c k)

  -- ---- a step of the plan

  -- a step of the plan, with its change
  pub record IsStep (c k : ℕ) (kind : StepKind) : Type 0 where
    pub change : ResourceChange
    pub change_at : slice_get plan.changes c ≡ Some change
    pub kind_at : slice_get change.steps k ≡ Some kind

  step_of : (c k : ℕ) (kind : StepKind) → slice_get (kinds_of plan c) k ≡ Some kind → IsStep c k kind
  step_of c k kind at =
      let own = change_of_kind (slice_get plan.changes c) k kind at in
      record { change = own.0; change_at = own.1; kind_at = own.2 }

  kinds_are : (c : ℕ) (change : ResourceChange) → slice_get plan.changes c ≡ Some change → kinds_of plan c ≡ change.steps
  kinds_are c change at = ap (λ (o : Option ResourceChange). option_map_or (λ (own : ResourceChange). own.steps) o []) at

  few_kinds : (c : ℕ) (change : ResourceChange) → slice_get plan.changes c ≡ Some change → length change.steps ≤ 2
  few_kinds c change at = let same = ap (length {A = StepKind}) (kinds_are c change at) in omega (arith, are.few c, same)

  planned_there : (c k : ℕ) (kind : StepKind) (is : IsStep c k kind) → slice_get begun.planned (place_of plan.changes c k) ≡ Some (planned_step is.change c k (place_of plan.changes c k) kind)
  planned_there c k kind is = ap (λ (own : List PlannedStep). slice_get own (place c k)) are.planned ∙ in_stream plan.changes c k is.change kind is.change_at is.kind_at

  is_first : (c k : ℕ) (kind : StepKind) → IsStep c k kind → (step_at (steps_of_plan begun recorded) (place_of plan.changes c k)).is_first ≡ eqb k 0
  is_first c k kind is = ap (λ (s : StepOfPlan). s.is_first) (step_there begun recorded (place c k) (planned_step is.change c k (place c k) kind) (planned_there c k kind is))

  within : (c k : ℕ) (kind : StepKind) → IsStep c k kind → place_of plan.changes c k < length begun.planned
  within c k kind is = slice_get_within begun.planned (place c k) (planned_step is.change c k (place c k) kind) (planned_there c k kind is)

  many : length (steps_of_plan begun recorded) ≡ length begun.planned
  many = as_many begun recorded begun.planned 0

  -- ---- its item

  recorded_there : (c k : ℕ) (kind : StepKind) → IsStep c k kind → slice_get recorded (place_of plan.changes c k) ≡ Some (recorded_at recorded (place_of plan.changes c k))
  recorded_there c k kind is =
      let each = are.each in
      let inside = within c k kind is in
      let found = item_there recorded (place c k) (omega (arith, each, inside)) in
      found.1 ∙ ap Some (sym (ap option_flatten found.1))

  state_there : (c k : ℕ) (kind : StepKind) → IsStep c k kind
      → slice_get (states_of (steps_of_plan begun recorded) after) (place_of plan.changes c k) ≡ Some (state_at (steps_of_plan begun recorded) after (place_of plan.changes c k))
  state_there c k kind is =
      let inside = within c k kind is in
      let same : 0 + place c k ≡ place c k = omega arith in
      range_got (state_at steps after) 0 (length steps) (place c k) (omega (arith, inside, many)) ∙ ap (λ (p : ℕ). Some (state_at steps after p)) same

  item_is : (c k : ℕ) (kind : StepKind) → IsStep c k kind → slice_get (drop (base plan.changes c) items) k ≡ Some (item c k)
  item_is c k kind is =
      let zeroth : 0 + place c k ≡ place c k = omega arith in
      get_drop (base plan.changes c) items k ∙ ap (slice_get items) (same_place plan.changes c k)
      ∙ item_at (even.planned_steps plan.changes) after 0 recorded (states_of steps after) (place c k) (recorded_at recorded (place c k)) (now c k) (recorded_there c k kind is) (state_there c k kind is)
      ∙ ap (λ (p : ℕ). Some (script_step (now c k) (recorded_at recorded (place c k)) (steps_at (even.planned_steps plan.changes) (even.waits_at after p)))) zeroth
      ∙ ap (λ (ns : List ℕ). Some (script_step (now c k) (recorded_at recorded (place c k)) (steps_at (even.planned_steps plan.changes) ns))) (unwrap_or-slice_get after (place c k) [])

  -- ---- the steps of its change

  stated_is : (c : ℕ) (change : ResourceChange) → slice_get plan.changes c ≡ Some change → stated_steps script c ≡ Some (first_steps change.steps (drop (base plan.changes c) items))
  stated_is c change at = ap (λ (o : Option (Option (List ScriptStep))). option_and_then (λ stated. stated) o) (change_steps plan.changes items c change at)

  stated_one : (c : ℕ) (kind : StepKind) (step : ScriptStep) (is : IsStep c 0 kind) → is.change.steps ≡ kind ∷ [] → item c 0 ≡ Some step → stated_steps script c ≡ Some (step ∷ [])
  stated_one c kind step is kinds stated =
      stated_is c is.change is.change_at
      ∙ ap (λ (own : List StepKind). Some (first_steps own (drop (base plan.changes c) items))) kinds
      ∙ ap Some (first_alone kind (drop (base plan.changes c) items) step (item_is c 0 kind is ∙ ap Some stated))

  stated_two : (c : ℕ) (kind other : StepKind) (step : ScriptStep) (is : IsStep c 0 kind) → is.change.steps ≡ kind ∷ other ∷ [] → item c 0 ≡ Some step
      → stated_steps script c ≡ Some (step ∷ option_to_list (item c 1))
  stated_two c kind other step is kinds stated =
      let second : IsStep c 1 other = record { change = is.change; change_at = is.change_at; kind_at = ap (λ (own : List StepKind). slice_get own 1) kinds } in
      stated_is c is.change is.change_at
      ∙ ap (λ (own : List StepKind). Some (first_steps own (drop (base plan.changes c) items))) kinds
      ∙ ap Some (first_two kind other (drop (base plan.changes c) items) step (item c 1) (item_is c 0 kind is ∙ ap Some stated) (item_is c 1 other second))

  stated_first : (c : ℕ) (kind : StepKind) (step : ScriptStep) → IsStep c 0 kind → item c 0 ≡ Some step → (rest : List ScriptStep) × (stated_steps script c ≡ Some (step ∷ rest))
  stated_first c kind step is stated = ⊎_elim
      (λ (alone : is.change.steps ≡ kind ∷ []). ([], stated_one c kind step is alone stated))
      (λ (two : (other : StepKind) × (is.change.steps ≡ kind ∷ other ∷ [])). (option_to_list (item c 1), stated_two c kind two.0 step is two.1 stated))
      (kinds_from_first is.change.steps kind (few_kinds c is.change is.change_at) is.kind_at)

  some_kinds : (c k : ℕ) (kind : StepKind) → IsStep c k kind → k < length (kinds_of plan c)
  some_kinds c k kind is =
      let less = slice_get_within is.change.steps k kind is.kind_at in
      let same = ap (length {A = StepKind}) (kinds_are c is.change is.change_at) in omega (arith, less, same)

  -- ---- the states of its steps

  found_of : (p : ℕ) → state_at (steps_of_plan begun recorded) after p ≡ state.Began → (one : RecordedStep) × (recorded_at recorded p ≡ Some one)
  found_of p is = let ran = began steps after p is in let has = has_run begun recorded p ran.0 ran.1 in (has.found, has.recorded_is)

  first_now : (c : ℕ) (kind : StepKind) → IsStep c 0 kind
      → state_at (steps_of_plan begun recorded) after (place_of plan.changes c 0)
      ≡ state_of (steps_of_plan begun recorded) (waits_at after (place_of plan.changes c 0)) (place_of plan.changes c 0) false
  first_now c kind is = first_state steps after (place c 0) (is_first c 0 kind is)

  next_place : (c : ℕ) → place_of plan.changes c 1 ≡ suc (place_of plan.changes c 0)
  next_place c = omega arith

  second_now : (c : ℕ) (kind : StepKind) → IsStep c 1 kind → ends_change (state_at (steps_of_plan begun recorded) after (place_of plan.changes c 0)) ≡ false
      → state_at (steps_of_plan begun recorded) after (place_of plan.changes c 1)
      ≡ state_of (steps_of_plan begun recorded) (waits_at after (place_of plan.changes c 1)) (place_of plan.changes c 1) false
  second_now c kind is on = later_state steps after (place c 1) (place c 0) (next_place c) (is_first c 1 kind is) on

  first_answered : (c : ℕ) → ends_change (state_at (steps_of_plan begun recorded) after (place_of plan.changes c 0)) ≡ false → (outcome : Outcome) × (item c 0 ≡ Some (Answered outcome))
  first_answered c on = answered_item (now c 0) (recorded_at recorded (place c 0)) (waits c 0) on (found_of (place c 0))

  item_by : (c k : ℕ) (own : StepState) → state_at (steps_of_plan begun recorded) after (place_of plan.changes c k) ≡ own
      → item c k ≡ script_step own (recorded_at recorded (place_of plan.changes c k)) (waits c k)
  item_by c k own is = ap (λ (s : StepState). script_step s (recorded_at recorded (place c k)) (waits c k)) is

  began_item : (c k : ℕ) (found : RecordedStep) → state_at (steps_of_plan begun recorded) after (place_of plan.changes c k) ≡ state.Began
      → recorded_at recorded (place_of plan.changes c k) ≡ Some found → item c k ≡ Some (Answered (record found.outcome { after = waits c k }))
  began_item c k found is at = item_by c k state.Began is ∙ ap (λ (o : Option RecordedStep). script_step state.Began o (waits c k)) at

  -- the first step of the change of a second step
  before : (c : ℕ) (kind : StepKind) (is : IsStep c 1 kind) → (first : StepKind) × (is.change.steps ≡ first ∷ kind ∷ [])
  before c kind is = kinds_from_second is.change.steps kind (few_kinds c is.change is.change_at) is.kind_at

  abbrev first_of : (c : ℕ) (kind : StepKind) (is : IsStep c 1 kind) → IsStep c 0 (before c kind is).0
  first_of c kind is = record { change = is.change; change_at = is.change_at; kind_at = ap (λ (own : List StepKind). slice_get own 0) (before c kind is).1 }

  stated_both : (c : ℕ) (kind : StepKind) (is : IsStep c 1 kind) (step : ScriptStep) (own : StepState) → item c 0 ≡ Some step
      → state_at (steps_of_plan begun recorded) after (place_of plan.changes c 1) ≡ own
      → stated_steps script c ≡ Some (step ∷ option_to_list (script_step own (recorded_at recorded (place_of plan.changes c 1)) (waits c 1)))
  stated_both c kind is step own stated own_is =
      stated_two c (before c kind is).0 kind step (first_of c kind is) (before c kind is).1 stated
      ∙ ap (λ (o : Option ScriptStep). Some (step ∷ option_to_list o)) (item_by c 1 own own_is)

  -- ---- a step that began

  began_first : (c : ℕ) (kind : StepKind) (found : RecordedStep) → IsStep c 0 kind → has_begun (steps_of_plan begun recorded) (place_of plan.changes c 0) ≡ true
      → recorded_at recorded (place_of plan.changes c 0) ≡ Some found → IsAppliedAs plan script found (waits_named plan after (place_of plan.changes c 0)) c 0
  began_first c kind found is begins at =
      let now_is = first_now c kind is ∙ state_begun steps (waits_at after (place c 0)) (place c 0) begins in
      let own : Outcome = record found.outcome { after = waits c 0 } in
      let stated = stated_first c kind (Answered own) is (began_item c 0 found now_is at) in record {
        applied = first_applied plan script c own stated.0 stated.1 (some_kinds c 0 kind is);
        outcome = outcome_at plan script c (Answered own ∷ stated.0) 0 own stated.1 refl;
      }

  began_second : (c : ℕ) (kind : StepKind) (found : RecordedStep) → IsStep c 1 kind → has_begun (steps_of_plan begun recorded) (place_of plan.changes c 1) ≡ true
      → recorded_at recorded (place_of plan.changes c 1) ≡ Some found → IsAppliedAs plan script found (waits_named plan after (place_of plan.changes c 1)) c 1
  began_second c kind found is begins at =
      let less = some_kinds c 1 kind is in
      let first_now_is = first_now c (before c kind is).0 (first_of c kind is) ∙ state_begun steps (waits_at after (place c 0)) (place c 0) (are.in_order c 0 less begins) in
      let on : ends_change (now c 0) ≡ false = ap ends_change first_now_is in
      let first = first_answered c on in
      let now_is = second_now c kind is on ∙ state_begun steps (waits_at after (place c 1)) (place c 1) begins in
      let own : Outcome = record found.outcome { after = waits c 1 } in
      let stated : stated_steps script c ≡ Some (Answered first.0 ∷ Answered own ∷ []) =
      stated_both c kind is (Answered first.0) state.Began first.1 now_is
      ∙ ap (λ (o : Option RecordedStep). Some (Answered first.0 ∷ option_to_list (script_step state.Began o (waits c 1)))) at in
      let all = ap (length {A = StepKind}) (both_applied plan script c first.0 own stated) in record {
        applied = omega (arith, all, less);
        outcome = outcome_at plan script c (Answered first.0 ∷ Answered own ∷ []) 1 own stated refl;
      }

  step_began : (c k : ℕ) (kind : StepKind) (found : RecordedStep) → IsStep c k kind → has_begun (steps_of_plan begun recorded) (place_of plan.changes c k) ≡ true
      → recorded_at recorded (place_of plan.changes c k) ≡ Some found → IsAppliedAs plan script found (waits_named plan after (place_of plan.changes c k)) c k
  step_began c zero kind found is begins at = began_first c kind found is begins at
  step_began c (suc zero) kind found is begins at = began_second c kind found is begins at
  step_began c (suc (suc k)) kind found is begins at =
      let less = some_kinds c (suc (suc k)) kind is in
      let few = are.few c in absurd (omega (arith, less, few))

  -- ---- a step that is held up

  -- a wait by its name
  record IsNamed (c k other : ℕ) : Type 0 where
    pub name : Wait
    pub at : slice_get (even.planned_steps plan.changes) other ≡ Some name
    pub has : Contains (waits_named plan after (place_of plan.changes c k)) name

  named : (c k : ℕ) (kind : StepKind) → IsStep c k kind → (other : ℕ) → Contains (waits_at after (place_of plan.changes c k)) other → IsNamed c k other
  named c k kind is other has =
      let inside = within c k kind is in
      let less = All-contains (λ (n : ℕ). n < length (steps_of_plan begun recorded)) (waits_at after (place c k)) other (are.waits.known (place c k) (omega (arith, inside, many))) has in
      let own = item_there begun.planned other (omega (arith, less, many)) in
      let at : slice_get (even.planned_steps plan.changes) other ≡ Some (name_of own.0) =
      wait_at plan.changes other ∙ ap (option_map name_of) (ap (λ (ps : List PlannedStep). slice_get ps other) (sym are.planned) ∙ own.1) in
      record { name = name_of own.0; at = at; has = named_at (even.planned_steps plan.changes) (waits_at after (place c k)) other (name_of own.0) at has }

  left_first : (c : ℕ) (kind : StepKind) → IsStep c 0 kind → has_begun (steps_of_plan begun recorded) (place_of plan.changes c 0) ≡ false
      → (length (kinds_applied plan script c) ≤ 0) ⊎ IsHeldUp plan (steps_of_plan begun recorded) script c 0
  left_first c kind is not_begun = ⊎_elim
      (λ (answered : (is_explained steps (waits_at after (place c 0)) (place c 0) ≡ true) × (state_of steps (waits_at after (place c 0)) (place c 0) false ≡ state.Answered)).
      let held = explained_alone steps (waits_at after (place c 0)) (place c 0) (none_before steps (place c 0) (is_first c 0 kind is)) answered.0 in
      let own = named c 0 kind is held.0 held.1 in
      let stated = stated_first c kind (Answered (even_outcome (waits c 0))) is (item_by c 0 state.Answered (first_now c kind is ∙ answered.1)) in
      let outcome = outcome_at plan script c (Answered (even_outcome (waits c 0)) ∷ stated.0) 0 (even_outcome (waits c 0)) stated.1 refl in
      inr (record {
        name = own.name;
        waits = subst (λ (o : Outcome). Contains o.after own.name) (sym outcome) own.has;
        place = held.0;
        stands = own.at;
        holds = held.2;
      }))
      (λ (skipped : state_of steps (waits_at after (place c 0)) (place c 0) false ≡ state.Skipped).
      let stated = stated_first c kind (Skipped (waits c 0)) is (item_by c 0 state.Skipped (first_now c kind is ∙ skipped)) in
      inl (none_applied plan script c (waits c 0) stated.0 stated.1))
      (state_not_begun steps (waits_at after (place c 0)) (place c 0) not_begun)

  held_second : (c : ℕ) (kind : StepKind) → IsStep c 1 kind → (outcome_of script c 1 ≡ even_outcome (waits_named plan after (place_of plan.changes c 1)))
      → is_explained (steps_of_plan begun recorded) (waits_at after (place_of plan.changes c 1)) (place_of plan.changes c 1) ≡ true → IsHeldUp plan (steps_of_plan begun recorded) script c 1
  held_second c kind is outcome explained = ⊎_elim
      (λ (first : holds_up steps (place c 0) ≡ true). record {
        name = record { change = c; step = 0 };
        waits = contains_first (record { change = c; step = 0 }) (outcome_of script c 1).after;
        place = place c 0;
        stands = in_script plan.changes c 0 is.change (before c kind is).0 is.change_at (first_of c kind is).kind_at;
        holds = first;
      })
      (λ (held : IsHeldBy steps (waits_at after (place c 1)) (place c 1)).
      let own = named c 1 kind is held.0 held.1 in record {
        name = own.name;
        waits = contains_later (record { change = c; step = 0 }) own.name (outcome_of script c 1).after (subst (λ (o : Outcome). Contains o.after own.name) (sym outcome) own.has);
        place = held.0;
        stands = own.at;
        holds = held.2;
      })
      (explained_later steps (waits_at after (place c 1)) (place c 1) (place c 0) (one_before steps (place c 1) (place c 0) (next_place c) (is_first c 1 kind is)) explained)

  left_second : (c : ℕ) (kind : StepKind) → IsStep c 1 kind → has_begun (steps_of_plan begun recorded) (place_of plan.changes c 1) ≡ false
      → (length (kinds_applied plan script c) ≤ 1) ⊎ IsHeldUp plan (steps_of_plan begun recorded) script c 1
  left_second c kind is not_begun = ⊎_elim
      (λ (on : ends_change (now c 0) ≡ false).
      let first = first_answered c on in ⊎_elim
      (λ (answered : (is_explained steps (waits_at after (place c 1)) (place c 1) ≡ true) × (state_of steps (waits_at after (place c 1)) (place c 1) false ≡ state.Answered)).
      let own = even_outcome (waits c 1) in
      let stated = stated_both c kind is (Answered first.0) state.Answered first.1 (second_now c kind is on ∙ answered.1) in
      inr (held_second c kind is (outcome_at plan script c (Answered first.0 ∷ Answered own ∷ []) 1 own stated refl) answered.0))
      (λ (skipped : state_of steps (waits_at after (place c 1)) (place c 1) false ≡ state.Skipped).
      inl (one_applied plan script c first.0 (waits c 1) (stated_both c kind is (Answered first.0) state.Skipped first.1 (second_now c kind is on ∙ skipped))))
      (state_not_begun steps (waits_at after (place c 1)) (place c 1) not_begun))
      (λ (skipped : now c 0 ≡ state.Skipped).
      let stated = stated_first c (before c kind is).0 (Skipped (waits c 0)) (first_of c kind is) (item_by c 0 state.Skipped skipped) in
      let none = none_applied plan script c (waits c 0) stated.0 stated.1 in inl (omega (arith, none)))
      (ends_or_not steps after (place c 0) (is_first c 0 (before c kind is).0 (first_of c kind is)))

  step_left : (c k : ℕ) (kind : StepKind) → IsStep c k kind → has_begun (steps_of_plan begun recorded) (place_of plan.changes c k) ≡ false
      → (length (kinds_applied plan script c) ≤ k) ⊎ IsHeldUp plan (steps_of_plan begun recorded) script c k
  step_left c zero kind is not_begun = left_first c kind is not_begun
  step_left c (suc zero) kind is not_begun = left_second c kind is not_begun
  step_left c (suc (suc k)) kind is not_begun =
      let less = some_kinds c (suc (suc k)) kind is in
      let few = are.few c in absurd (omega (arith, less, few))

  pub has_steps_that_began : HasStepsThatBegan plan begun recorded after script
  has_steps_that_began = record {
    began = λ c k kind found at begins has. step_began c k kind found (step_of c k kind at) begins has;
    others = λ c k kind at not_begun. step_left c k kind (step_of c k kind at) not_begun;
  }
