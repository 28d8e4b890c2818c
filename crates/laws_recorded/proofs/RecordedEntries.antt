-- The script of what was recorded may be written.
use Rattle.std.proofs.Common.{◌≡◌, ◌∙◌, ◌+◌, ◌-◌, ◌≤◌, ℕ, Bool, true, false, cond, eqb, List, length, Option, None, Some, refl, sym, ap, arith, subst, ◌⊎◌, inl, inr, ⊎_elim}
use Rattle.std.specs.Prelude.{slice_get, sum_by}
use Rattle.std.specs.List.{AllByRecursion}
use Rattle.std.specs.Option.{option_flatten}
use Rattle.std.proofs.lemmas.Bool.{eq-eqb, ne_eqb}
use Rattle.std.proofs.lemmas.Option.{slice_get_within}
use Rattle.apply_model.specs.declared.script.wait.Wait.{Wait}
use Rattle.apply_model.specs.Plan.ResourceChange.{ResourceChange}
use Rattle.apply_model.specs.Script.Limits.{max_waits}
use Rattle.stream_record.specs.EvenScript as even
use Rattle.stream_record_outcomes.specs.declared.recorded_step.RecordedStep.{RecordedStep}
use Rattle.stream_record_outcomes.specs.Recording.{AreAllowed}
use Rattle.stream_record_steps.specs.Begun.{Begun}
use Rattle.stream_record_steps.specs.Steps.{PlannedStep, is_first_step, planned_steps}
use Rattle.stream_record_waits.specs.declared.step_of_plan.StepOfPlan.{StepOfPlan}
use Rattle.stream_record_waits.specs.declared.step_state.StepState.{StepState}
use Rattle.stream_record_waits.specs.declared.step_state.StepState.TheVariants as state
use Rattle.stream_record_waits.specs.States.{state_at, states_of}
use Rattle.stream_record_waits.specs.Steps.{step_at, step_before}
use Rattle.stream_record_script.specs.Runs.{steps_of_plan}
use Rattle.stream_record_script.specs.Steps.{script_of, script_step}
use Rattle.laws_recorded.specs.Graphs.{IsRankedGraph}
use Rattle.laws_recorded.specs.Texts.{IsWritableRecording}
use Rattle.laws_record.specs.Writable.{IsWritable, IsWritableChange, NamesEachObjectOnce}
use Rattle.laws_recorded.proofs.Entries.{AreFirstStated, items_of, steps_are_writable, waits_for}
use Rattle.laws_recorded.proofs.Items.{item_in}
use Rattle.laws_recorded.proofs.PlaceRanks.{AreRanked}
use Rattle.laws_recorded.proofs.Places.{base, later_place, planned_at}
use Rattle.laws_recorded.proofs.RunOrder.{as_many, has_run, step_there}
use Rattle.laws_recorded.proofs.Stated.{item_there, neither}
use Rattle.laws_recorded.proofs.StatesOf.{began, first_stated, state_in}

-- why a step is not stated
none_stated : (now : StepState) (found : Option RecordedStep) (after : List Wait) → None ≡ script_step now found after → ((now ≡ state.Began) × (found ≡ None)) ⊎ (now ≡ state.Absent)
none_stated state.Began None after is = inl (refl, refl)
none_stated state.Began (Some one) after is = absurd cc
none_stated state.Answered found after is = absurd cc
none_stated state.Skipped found after is = absurd cc
none_stated state.Absent found after is = inr refl

module _ (changes : List ResourceChange) (begun : Begun) (planned_is : begun.planned ≡ planned_steps changes)
    (recorded : List (Option RecordedStep)) (after : List (List ℕ)) where
  abbrev steps : List StepOfPlan
  steps = steps_of_plan begun recorded

  -- the first step of a change is stated
  first_there : AreFirstStated changes (items_of changes recorded (states_of (steps_of_plan begun recorded) after) after)
  first_there c change at some none =
      let place = base changes c in
      let item = item_in (even.planned_steps changes) after 0 recorded (states_of steps after) place None none in
      let now = (state_in steps after place item.state item.state_at).1 in
      let zeroth : 0 + place ≡ place = omega arith in
      let is : None ≡ script_step (state_at steps after place) item.found (waits_for changes after place) =
      item.is
      ∙ ap (λ (p : ℕ). script_step item.state item.found (waits_for changes after p)) zeroth
      ∙ ap (λ (s : StepState). script_step s item.found (waits_for changes after place)) now in
      let kind = item_there change.steps 0 some in
      let own = planned_at changes 0 0 c 0 change kind.0 at kind.1 in
      let first_place : place + 0 ≡ place = omega arith in
      let stands : slice_get begun.planned place ≡ Some own.0 =
      ap (λ (ps : List PlannedStep). slice_get ps place) planned_is ∙ ap (slice_get (planned_steps changes)) (sym first_place) ∙ own.1 in
      let numbered : own.0.number ≡ 0 = let n = own.2.number_is in omega (arith, n) in
      let first : (step_at steps place).is_first ≡ true =
      ap (λ (s : StepOfPlan). s.is_first) (step_there begun recorded place own.0 stands) ∙ eq-eqb own.0.number 0 numbered in
      ⊎_elim
      (λ (not : (state_at steps after place ≡ state.Began) × (item.found ≡ None)).
      let run = began steps after place not.0 in
      let ran = has_run begun recorded place run.0 run.1 in
      let there : None ≡ Some ran.found = sym (ap option_flatten item.found_at ∙ not.1) ∙ ran.recorded_is in cc)
      (λ (absent : state_at steps after place ≡ state.Absent). first_stated steps after place first absent)
      (none_stated (state_at steps after place) item.found (waits_for changes after place) is)

  before_is : (place : ℕ) (own : PlannedStep) → slice_get (planned_steps changes) place ≡ Some own → is_first_step own ≡ false → step_before steps place ≡ Some (place - 1)
  before_is place own stands later =
      let first : (step_at steps place).is_first ≡ false =
      ap (λ (s : StepOfPlan). s.is_first) (step_there begun recorded place own (ap (λ (ps : List PlannedStep). slice_get ps place) planned_is ∙ stands)) ∙ later in
      let positive = later_place changes place own stands later in
      let start : eqb place 0 ≡ false = ne_eqb place 0 (λ zeroth. omega (arith, positive, zeroth)) in
      ap (λ (b : Bool). cond b None (Some (place - 1))) (neither (eqb place 0) (step_at steps place).is_first start first)

  -- the waits are ranked by the places of the steps in the plan
  by_place : AreRanked (steps_of_plan begun recorded) after → IsRankedGraph (planned_steps changes) after
  by_place ranks =
      let many : length steps ≡ length (planned_steps changes) = as_many begun recorded begun.planned 0 ∙ ap length planned_is in record {
        rank = ranks.rank;
        waits = λ place other within has. ranks.waits place other (omega (arith, within, many)) has;
        before = λ place own stands later.
            let inside = slice_get_within (planned_steps changes) place own stands in
            ranks.before place (place - 1) (omega (arith, inside, many)) (before_is place own stands later);
      }

  pub script_is_writable : AllByRecursion IsWritableChange changes → NamesEachObjectOnce changes → AreAllowed begun.planned recorded → AllByRecursion IsWritableRecording recorded
      → sum_by length after ≤ max_waits → AreRanked (steps_of_plan begun recorded) after → IsWritable changes (script_of changes recorded (states_of (steps_of_plan begun recorded) after) after)
  script_is_writable each once allowed writable few ranks =
      steps_are_writable changes each once recorded (states_of steps after)
      (subst (λ (planned : List PlannedStep). AreAllowed planned recorded) planned_is allowed) writable after few (by_place ranks) first_there
