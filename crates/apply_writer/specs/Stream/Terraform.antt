-- A stream in Terraform's own form.
use Rattle.std.specs.Prelude.{ℕ, ◌+◌, List, [], ◌∷◌, ◌++◌, Bool, true, false, ◌||◌, nat_lt, if◌then◌else◌, is_some, map, flat_map, count_by, slice_get, Option, Some, None, option_and_then}
use Rattle.std.specs.List.{concat, enumerate_from, list_any}
use Rattle.std.specs.Option.{option_map_or}
use Rattle.apply_model.specs.Plan.ResourceChange.{ResourceChange}
use Rattle.apply_model.specs.Plan.SavedPlan.{SavedPlan}
use Rattle.apply_model.specs.Script.OutcomeMap.{OutcomeMap}
use Rattle.apply_events.specs.declared.counts.Counts.{Counts}
use Rattle.apply_events.specs.declared.event.Event.{Event}
use Rattle.apply_text.specs.declared.operation.Operation.{Operation}
use Rattle.apply_text.specs.declared.operation.Operation.TheVariants.{Apply, Destroy}
use Rattle.apply_model.specs.declared.details.change_details.ChangeDetails.{ChangeDetails}
use Rattle.apply_model.specs.declared.details.note.Note.{Note}
use Rattle.apply_model.specs.declared.details.output.Output.{Output}
use Rattle.apply_model.specs.declared.details.note.Severity.{Severity}
use Rattle.apply_model.specs.declared.details.note.Severity.TheVariants.{Error, Warning}
use Rattle.apply_text_terraform.specs.Lines.{event_text, note_text, outputs_text, planned_text, summary_text, version_text}
use Rattle.apply_writer.specs.Stream.Form.{StreamForm}

-- what plan and script state beyond the steps: the details of each change by its number, the
-- diagnostics of no step, and the outputs, both in their order
pub record StreamExtras : Type 0 where
  pub details : List ChangeDetails
  pub notes : List Note
  pub outputs : List Output

-- ---- the head

-- the line of a planned change, by its number; empty if nothing is planned
abbrev pub planned_at : (start : ℕ) → List ChangeDetails → ℕ × ResourceChange → List ℕ
planned_at start details p = option_map_or (planned_text start p.1) (slice_get details p.0) []

-- the version, then each planned change in the plan's order, all at the start
abbrev pub terraform_head_chunks : SavedPlan → List ChangeDetails → (start : ℕ) → List (List ℕ)
terraform_head_chunks plan details start = version_text plan start ∷ map (planned_at start details) (enumerate_from 0 plan.changes)

-- ---- the line of an event

-- the id that the object of a change will have
abbrev pub planned_id_of : List ChangeDetails → ℕ → Option (List ℕ)
planned_id_of details change = option_and_then (λ (d : ChangeDetails). d.planned_id) (slice_get details change)

-- ---- the tail

-- the severity is that of an error
abbrev pub is_severe : Severity → Bool
is_severe Error = true
is_severe Warning = false

abbrev pub is_error : Note → Bool
is_error note = is_severe note.severity

-- the stream reports an error: a step failed or was halted, or a diagnostic of no step is an error
abbrev pub contains_error : List Note → Counts → Bool
contains_error notes counts = nat_lt 0 (counts.failed + counts.halted) || list_any is_error notes

-- how many changes import an object
abbrev pub imported_in : List ChangeDetails → ℕ
imported_in details = count_by (λ (d : ChangeDetails). is_some d.importing) details

-- the outputs; a destroy prints none
abbrev pub outputs_of_apply : Operation → (start latest : ℕ) → List Output → List ℕ
outputs_of_apply Apply start latest outputs = outputs_text start latest outputs
outputs_of_apply Destroy start latest outputs = []

-- the diagnostics of no step; then the summary and the outputs, unless an error was reported
abbrev pub tail_text : StreamExtras → (start : ℕ) → Operation → (latest : ℕ) → Counts → List ℕ
tail_text extras start operation latest counts =
    flat_map (note_text start latest) extras.notes
    ++ (if contains_error extras.notes counts then []
    else (summary_text start latest operation counts (imported_in extras.details)
    ++ outputs_of_apply operation start latest extras.outputs))

-- Terraform's form for one plan, its script and the extras of both
abbrev pub terraform_form : SavedPlan → OutcomeMap → StreamExtras → (start : ℕ) → Operation → StreamForm
terraform_form plan script extras start operation = record {
  plan = plan;
  head = concat (terraform_head_chunks plan extras.details start);
  line = λ latest event. event_text plan script start latest (planned_id_of extras.details event.change) event;
  tail = tail_text extras start operation;
}
