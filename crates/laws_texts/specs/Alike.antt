-- Outcomes of a step with the same hook messages.
use Rattle.std.specs.Prelude.{◌≡◌, ◌<◌, ⊤, ℕ, List, length, slice_get, true, false, Option, Some}
use Rattle.apply_model.specs.declared.plan.step_kind.StepKind.{StepKind}
use Rattle.apply_model.specs.declared.script.ending.Ending.{Ending}
use Rattle.apply_model.specs.declared.script.outcome.Outcome.{Outcome}
use Rattle.apply_model.specs.declared.script.provisioner.Provisioner.{Provisioner}
use Rattle.apply_model.specs.Plan.SavedPlan.{SavedPlan}
use Rattle.apply_model.specs.Script.Outcome.{end_id, fails, ran}
use Rattle.apply_model.specs.Script.OutcomeMap.{OutcomeMap, outcome_of}
use Rattle.apply_events.specs.declared.event.Event.{Event}
use Rattle.apply_events.specs.declared.what.What.{What}
use Rattle.apply_events.specs.declared.what.What.TheVariants.{ProvisionStart, ProvisionOutput, ProvisionComplete, ProvisionErrored}
use Rattle.apply_events.specs.Step.{kinds_of}
use Rattle.apply_events.specs.Totals.{is_complete, is_errored}
use Rattle.laws_lanes.specs.Alike.{RunAlike}

-- ---- provisioners

-- The provisioner that the event names, if it names one, is one of these.
abbrev pub NamesOneOf : List Provisioner → What → Type 0
NamesOneOf ran (ProvisionStart i) = i < length ran
NamesOneOf ran (ProvisionOutput i line) = i < length ran
NamesOneOf ran (ProvisionComplete i) = i < length ran
NamesOneOf ran (ProvisionErrored i) = i < length ran
NamesOneOf ran _ = ⊤

-- What the outcome of its step says of an event: whether an end is a failure, and that a
-- provisioner that the event names ran.
pub record IsOfOutcome (script : OutcomeMap) (event : Event) : Type 0 where
  pub succeeds : is_complete event.what ≡ true → fails (outcome_of script event.change event.step) ≡ false
  pub fails : is_errored event.what ≡ true → fails (outcome_of script event.change event.step) ≡ true
  pub named : NamesOneOf (ran (outcome_of script event.change event.step).provisioners) event.what

-- ---- messages

-- What the message of an event of a step shows is the same for both outcomes. The provisioners run
-- alike, and a provisioner that the event names ran. A completion shows the same id.
pub record ShowsTheSame (id_of : Ending → Option (List ℕ)) (one other : Outcome) (what : What) : Type 0 where
  pub runs : RunAlike (ran one.provisioners) (ran other.provisioners)
  pub named : NamesOneOf (ran one.provisioners) what
  pub id : is_complete what ≡ true → id_of other.result ≡ id_of one.result

-- The message of the event shows the same for both scripts, if the plan has the step of the event.
-- `id_of` is the id that the end of a step of that kind shows.
abbrev pub IsShownAlike : (id_of : StepKind → Ending → Option (List ℕ)) → SavedPlan → (one other : OutcomeMap) → Event → Type 0
IsShownAlike id_of plan one other event =
    (kind : StepKind) → slice_get (kinds_of plan event.change) event.step ≡ Some kind
    → ShowsTheSame (id_of kind) (outcome_of one event.change event.step) (outcome_of other event.change event.step) event.what

-- The same in the default form.
abbrev pub IsToldAlike : SavedPlan → (one other : OutcomeMap) → Event → Type 0
IsToldAlike plan one other event = IsShownAlike end_id plan one other event
