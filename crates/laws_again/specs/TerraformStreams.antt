-- The same streams in Terraform's form, and what `record` reads back of them.
use Rattle.std.specs.Prelude.{◌≡◌, ◌++◌, ◌+◌, ℕ, List, pos, slice_get, false, Option, Some}
use Rattle.apply_model.specs.declared.details.change_details.ChangeDetails.{ChangeDetails}
use Rattle.apply_model.specs.declared.details.note.Note.{Note}
use Rattle.apply_model.specs.declared.plan.step_kind.StepKind.TheVariants.{Delete}
use Rattle.apply_model.specs.Plan.SavedPlan.{SavedPlan}
use Rattle.apply_model.specs.Script.Outcome.{fails}
use Rattle.apply_model.specs.Script.OutcomeMap.{OutcomeMap, outcome_of}
use Rattle.apply_events.specs.declared.event.Event.{Event}
use Rattle.apply_events.specs.Lanes.{AreLanes}
use Rattle.apply_events.specs.Step.{has_warning, kinds_of}
use Rattle.apply_events.specs.Totals.{totals_of}
use Rattle.apply_events.specs.Waits.TimeLine.{IsTimeLine}
use Rattle.apply_text.specs.declared.operation.Operation.{Operation}
use Rattle.apply_text.specs.declared.operation.Operation.TheVariants.{Apply}
use Rattle.apply_text_terraform.specs.Message.{diagnostic_address}
use Rattle.apply_text_terraform.specs.declared.form.Form.TheVariants.{Terraform}
use Rattle.apply_run.specs.FromBytes.{form_for, work_for}
use Rattle.apply_run.specs.Read.{IsStated, StatedInputs, extras_of}
use Rattle.apply_writer.specs.Stream.Form.{stream_in}
use Rattle.apply_writer.specs.Stream.Terraform.{StreamExtras, contains_error}
use Rattle.laws_again.specs.Streams.{IsToldWhole, inputs_of}
use Rattle.laws_lines.specs.Notes.{diag_in_form}
use Rattle.laws_lines.specs.Reading.{NoReadFails}
use Rattle.laws_lines.specs.Stated.{told_in_form}
use Rattle.laws_outputs.specs.Again.{AreShownAlike}
use Rattle.laws_own_streams.specs.Runs.{AreShallow, planned_count, without_hooks}
use Rattle.laws_steps_again.specs.Again.{Look}
use Rattle.laws_steps_again.specs.ReadBack.{Reading}
use Rattle.laws_texts.specs.TimeLines.{notes_by_ends}

-- A run reads the bytes as these inputs, and these are its events in so many lanes, without hooks.
-- The plan is applied as it is, as one that Terraform finished.
pub record IsRunInForm (plan : List ℕ) (script : Option (List ℕ)) (stated : StatedInputs) (lanes : ℕ) (events : List Event) : Type 0 where
  pub read : IsStated plan script stated
  pub sizes : AreLanes lanes
  pub time_line : IsTimeLine (without_hooks stated.plan stated.script) lanes events

-- The bytes are the stream of a run in lanes, without hooks, in Terraform's form.
pub record IsStreamInLanesInForm (plan : List ℕ) (script : Option (List ℕ)) (lanes start : ℕ) (operation : Operation) (stream : List ℕ) : Type 0 where
  pub stated : StatedInputs
  pub read : IsStated plan script stated
  pub sizes : AreLanes lanes
  pub events : List Event
  pub time_line : IsTimeLine (work_for Terraform (inputs_of plan script) stated) lanes events
  pub stream_is : stream ≡ stream_in (form_for Terraform stated start operation) events

-- ---- what `record` has to find

-- Terraform's form shows all that the run states. No read fails, since the end of a failed read has
-- no line: the stream does not say when it ended. No delete that completes warns, since such a
-- warning has no address: it is told again as one of no step, after all those of steps. No range
-- and no snippet nests too deep to be repeated.
pub record IsShownWhole (stated : StatedInputs) : Type 0 where
  pub reads : NoReadFails stated.plan stated.script
  pub deletes : (c k : ℕ) → slice_get (kinds_of stated.plan c) k ≡ Some Delete → fails (outcome_of stated.script c k) ≡ false
      → has_warning (outcome_of stated.script c k).result ≡ false
  pub shallow : AreShallow stated.script (extras_of stated)

-- The run is told whole, as in the default form, and shown whole.
pub record IsToldWholeInForm (stated : StatedInputs) (lanes : ℕ) (graph : List ℕ) : Type 0 where
  pub told : IsToldWhole stated.plan stated.script lanes graph
  pub shown : IsShownWhole stated

-- ---- what it reads back

-- How Terraform's form shows diagnostics. Their ranges and snippets are objects.
abbrev pub terraform_look : Look
terraform_look = record { address = diagnostic_address; shown = diag_in_form }

-- The hook messages come after the planned changes.
abbrev pub terraform_reading : SavedPlan → OutcomeMap → List ChangeDetails → (start : ℕ) → Reading
terraform_reading plan script details start = record {
  telling = told_in_form plan script details;
  start = pos start;
  first = 2 + planned_count plan details;
  look = terraform_look;
  is_default_form = false;
}

-- ---- what is told again

-- The outputs are shown, unless the stream has an error or is that of a destroy. Those that are
-- shown are the same, but for values of sensitive outputs.
abbrev pub AreOutputsAgain : SavedPlan → (extras other_extras : StreamExtras) → Operation → List Event → Type 0
AreOutputsAgain plan extras other_extras operation events =
    contains_error extras.notes (totals_of plan events) ≡ false → operation ≡ Apply
    → AreShownAlike other_extras.outputs extras.outputs

-- What is stated beyond the steps is told again. `notes` were read of the stream as they are, but
-- for the diagnostic of the plan, which each apply of it has (`of_plan`, none or one). `left` are
-- those that were recorded as of no step.
pub record AreExtrasAgain (plan : SavedPlan) (script : OutcomeMap) (extras other_extras : StreamExtras) (operation : Operation)
    (events : List Event) (notes left : List Note) : Type 0 where
  pub details : other_extras.details ≡ extras.details
  pub of_plan : List Note
  pub notes_are : notes ++ of_plan ≡ notes_by_ends diagnostic_address plan script events ++ extras.notes
  pub left_are : other_extras.notes ≡ left ++ of_plan
  pub outputs : AreOutputsAgain plan extras other_extras operation events
