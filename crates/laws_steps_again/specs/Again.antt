-- The diagnostics of steps as a form shows them, and the outcomes that tell them again.
use Rattle.std.specs.Prelude.{◌≡◌, ◌<◌, ◌⊎◌, ℕ, List, [], length, map, slice_get, Bool, true, false, Option, Some, IfSome}
use Rattle.apply_model.specs.declared.details.note.Note.{Note}
use Rattle.apply_model.specs.declared.plan.step_kind.StepKind.{StepKind}
use Rattle.apply_model.specs.declared.plan.step_kind.StepKind.TheVariants.{Delete}
use Rattle.apply_model.specs.declared.script.diag.Diag.{Diag}
use Rattle.apply_model.specs.declared.script.outcome.Outcome.{Outcome}
use Rattle.apply_model.specs.Plan.ResourceChange.{ResourceChange}
use Rattle.apply_model.specs.Script.Outcome.{fails}
use Rattle.apply_model.specs.Script.OutcomeMap.{OutcomeMap, outcome_of}
use Rattle.apply_events.specs.declared.event.Event.{Event}
use Rattle.apply_events.specs.Step.{Work, has_warning, kinds_of}
use Rattle.apply_events.specs.Waits.Schedule.{schedule}
use Rattle.apply_text_terraform.specs.Message.{diagnostic_address}
use Rattle.stream_record_outcomes.specs.declared.recorded_step.RecordedStep.{RecordedStep}
use Rattle.stream_record_script.specs.Runs.{recorded_at}
use Rattle.laws_lanes.specs.Alike.{is_begun}
use Rattle.laws_texts.specs.Streams.{plain_address}
use Rattle.laws_texts.specs.TimeLines.{notes_by_ends}
use Rattle.laws_waits.specs.Places.{place_of}

-- How a form shows the diagnostic of a step: at which address, and which parts of it.
pub record Look : Type 0 where
  pub address : ResourceChange → StepKind → Outcome → Option (List ℕ)
  pub shown : Diag → Diag

abbrev pub note_shown : Look → Note → Note
note_shown look note = record { severity = note.severity; diag = look.shown note.diag; address = note.address }

-- The diagnostics of the steps that end, as the form shows them, in the order of the ends.
abbrev pub notes_shown : Look → Work → List Event → List Note
notes_shown look work events = map (note_shown look) (notes_by_ends look.address work.plan work.script events)

-- The default form: a diagnostic has the address of its change.
pub record IsPlain (look : Look) (is_default_form : Bool) : Type 0 where
  pub default : is_default_form ≡ true
  pub address : look.address ≡ plain_address

-- Terraform's form, where no delete that completes warns.
pub record IsTerraform (look : Look) (is_default_form : Bool) (work : Work) : Type 0 where
  pub other : is_default_form ≡ false
  pub address : look.address ≡ diagnostic_address
  pub deletes : (c k : ℕ) → slice_get (kinds_of work.plan c) k ≡ Some Delete → fails (outcome_of work.script c k) ≡ false
      → has_warning (outcome_of work.script c k).result ≡ false

-- One of the two forms.
abbrev pub IsInForm : Look → (is_default_form : Bool) → Work → Type 0
IsInForm look is_default_form work = IsPlain look is_default_form ⊎ IsTerraform look is_default_form work

-- The outcomes of another script are those that were recorded, whatever they wait for.
abbrev pub HasRecorded : Work → (n : ℕ) → List (Option RecordedStep) → OutcomeMap → Type 0
HasRecorded work n recorded other = (c k : ℕ) → k < length (kinds_of work.plan c) → is_begun work (schedule work n) c k ≡ true
    → IfSome (recorded_at recorded (place_of work.plan.changes c k)) (λ found. record (outcome_of other c k) { after = [] } ≡ found.outcome)
