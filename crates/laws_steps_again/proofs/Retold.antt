-- Outcomes that were recorded, told by another script, end like those of the run.
use Rattle.std.proofs.Common.{◌≡◌, ◌∙◌, ℕ, true, get_or, List, [], Option, Some, sym, ap, subst}
use Rattle.std.specs.Prelude.{IfSome, slice_get}
use Rattle.std.proofs.lemmas.Option.{slice_get-get_or, slice_get_within}
use Rattle.apply_model.specs.declared.plan.step_kind.StepKind.{StepKind}
use Rattle.apply_model.specs.declared.plan.step_kind.StepKind.TheVariants.{Create}
use Rattle.apply_model.specs.declared.script.ending.Ending.{Ending}
use Rattle.apply_model.specs.declared.script.outcome.Outcome.{Outcome}
use Rattle.apply_model.specs.declared.script.wait.Wait.{Wait}
use Rattle.apply_model.specs.Script.Outcome.{end_id}
use Rattle.apply_model.specs.Script.OutcomeMap.{OutcomeMap, outcome_of}
use Rattle.apply_events.specs.Step.{Work, kinds_of}
use Rattle.apply_events.specs.Waits.Schedule.{schedule}
use Rattle.apply_text_terraform.specs.Message.{end_id as planned_end_id}
use Rattle.stream_record_steps.specs.Begun.{Begun}
use Rattle.stream_record_outcomes.specs.declared.recorded_step.RecordedStep.{RecordedStep}
use Rattle.stream_record_script.specs.Runs.{recorded_at}
use Rattle.laws_lanes.specs.Alike.{IsAnsweredAlike, is_begun}
use Rattle.laws_texts.specs.TimeLines.{EndsAlike}
use Rattle.laws_steps_again.specs.Again.{HasRecorded}
use Rattle.laws_waits.specs.Places.{place_of}
use Rattle.laws_steps_again.specs.Steps.{AreStepsAgain, IsRecorded, StatesRecorded}

-- ---- a script that states what was recorded

some_by : {X : Type 0} (P : X → Type 0) (o : Option X) (x : X) → o ≡ Some x → P x → IfSome o P
some_by P o x is holds = subst (λ t. IfSome t P) (sym is) holds

pub has_recorded : (work : Work) (n : ℕ) (begun : Begun) (recorded : List (Option RecordedStep)) (id : (c k : ℕ) → Option (List ℕ)) → AreStepsAgain work n begun recorded id
    → (other : OutcomeMap) → StatesRecorded work begun recorded other → HasRecorded work n recorded other
has_recorded work n begun recorded id again other states c k less begins =
    let kind = get_or (kinds_of work.plan c) k Create in
    let at : slice_get (kinds_of work.plan c) k ≡ Some kind = slice_get-get_or (kinds_of work.plan c) k Create less in
    let its = again.began c k kind at begins in
    let stated = states c k kind its.found at (again.begins c k less ∙ begins) its.found_at in
    some_by (λ (f : RecordedStep). record (outcome_of other c k) { after = [] } ≡ f.outcome) (recorded_at recorded (place_of work.plan.changes c k)) its.found its.found_at
    (ap (λ (o : Outcome). let one : Outcome = record o { after = [] } in one) stated.1
    ∙ ap (λ (after : List Wait). let one : Outcome = record its.found.outcome { after = after } in one) (sym its.no_waits))

-- ---- its outcomes

found_by : {X : Type 0} (P : X → Type 0) (o : Option X) (x : X) → o ≡ Some x → IfSome o P → P x
found_by P o x is holds = subst (λ t. IfSome t P) is holds

module _ (work : Work) (n : ℕ) (begun : Begun) (recorded : List (Option RecordedStep)) (id : (c k : ℕ) → Option (List ℕ)) (again : AreStepsAgain work n begun recorded id)
    (other : OutcomeMap) (has : HasRecorded work n recorded other) (c k : ℕ) (kind : StepKind) (at : slice_get (kinds_of work.plan c) k ≡ Some kind)
    (begins : is_begun work (schedule work n) c k ≡ true) where
  its : IsRecorded work begun recorded c k kind (id c k)
  its = again.began c k kind at begins

  same : record (outcome_of other c k) { after = [] } ≡ its.found.outcome
  same =
      found_by (λ (f : RecordedStep). record (outcome_of other c k) { after = [] } ≡ f.outcome) (recorded_at recorded (place_of work.plan.changes c k)) its.found its.found_at
      (has c k (slice_get_within (kinds_of work.plan c) k kind at) begins)

  pub answered : IsAnsweredAlike kind (outcome_of work.script c k) (outcome_of other c k)
  answered =
      let one = subst (IsAnsweredAlike kind (outcome_of work.script c k)) (sym same) its.again.alike in
      record { before = one.before; ran = one.ran; after = one.after; fails = one.fails; ends = one.ends; other_ends = one.other_ends }

  same_id : (id_of : Ending → Option (List ℕ)) → id_of (outcome_of other c k).result ≡ id_of its.found.outcome.result
  same_id id_of = ap (λ (o : Outcome). id_of o.result) same

  pub ends_alike : id c k ≡ end_id kind (outcome_of work.script c k).result → EndsAlike (end_id kind) (outcome_of work.script c k) (outcome_of other c k)
  ends_alike told = record {
    runs = answered.ran;
    id = λ completes. same_id (end_id kind) ∙ its.again.reported completes told ∙ told;
    ends = answered.ends;
    other_ends = answered.other_ends;
  }

  pub planned_ends_alike : (planned : Option (List ℕ)) → id c k ≡ planned_end_id kind (outcome_of work.script c k).result planned
      → EndsAlike (λ ending. planned_end_id kind ending planned) (outcome_of work.script c k) (outcome_of other c k)
  planned_ends_alike planned told = record {
    runs = answered.ran;
    id = λ completes. same_id (λ ending. planned_end_id kind ending planned) ∙ its.again.reported_planned planned completes told ∙ told;
    ends = answered.ends;
    other_ends = answered.other_ends;
  }
