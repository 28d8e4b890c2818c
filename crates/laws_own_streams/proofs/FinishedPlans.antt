-- A plan that Terraform finished is applied as it is.
use Rattle.std.proofs.Common.{◌≡◌, ◌+◌, ℕ, All, Bool, false, cond, List, [], Ok, subst}
use Rattle.stream_lines.specs.Cut.{cut_lines}
use Rattle.apply_model.specs.Plan.SavedPlan.{SavedPlan}
use Rattle.apply_model.specs.Script.OutcomeMap.{OutcomeMap}
use Rattle.apply_events.specs.declared.event.Event.{Event}
use Rattle.apply_events.specs.Totals.{totals_of}
use Rattle.apply_run.specs.Read.{StatedInputs, extras_of, is_unfinished}
use Rattle.apply_text.specs.declared.operation.Operation.{Operation}
use Rattle.apply_text.specs.Order.{hook_messages_of}
use Rattle.apply_writer.specs.Stream.Form.{stream_in}
use Rattle.apply_writer.specs.Stream.Terraform.{contains_error, terraform_form}
use Rattle.stream_record_stream.specs.Reading.{read_of}
use Rattle.stream_record_stream.specs.Streams.{StreamRead}
use Rattle.laws_lines.specs.Reading.{NoReadFails, outputs_read}
use Rattle.laws_lines.specs.Stated.{told_in_form}
use Rattle.laws_own_streams.specs.Runs.{IsRun, notes_read_by_ends_in_form, planned_count, without_hooks}
use Rattle.laws_reads.specs.Runs.{IsOfRun, unless}
use Rattle.laws_texts.specs.Notes.{HasAnEnd}

module _ (stated : StatedInputs) (lanes start : ℕ) (operation : Operation) (events : List Event) (read : StreamRead) where
  -- the plan and the script as they are applied
  abbrev plan_if : (unfinished : Bool) → SavedPlan
  plan_if unfinished = cond unfinished (record { version = stated.plan.version; changes = [] }) stated.plan

  abbrev script_if : (unfinished : Bool) → OutcomeMap
  script_if unfinished = cond unfinished [] stated.script

  abbrev IsReadIf : (unfinished : Bool) → Type 0
  IsReadIf unfinished =
      IsRun (without_hooks (plan_if unfinished) (script_if unfinished)) lanes start events → NoReadFails (plan_if unfinished) (script_if unfinished)
      → All (HasAnEnd (script_if unfinished)) (hook_messages_of events)
      → read_of (plan_if unfinished) false 0 (cut_lines (stream_in (terraform_form (plan_if unfinished) (script_if unfinished) (extras_of stated) start operation) events)) ≡ Ok read
      → IsOfRun (told_in_form (plan_if unfinished) (script_if unfinished) stated.details.changes) start (2 + planned_count (plan_if unfinished) stated.details.changes) (hook_messages_of events)
      (notes_read_by_ends_in_form (plan_if unfinished) (script_if unfinished) (extras_of stated) events) (outputs_read (extras_of stated) operation (totals_of (plan_if unfinished) events))
      (unless (contains_error (extras_of stated).notes (totals_of (plan_if unfinished) events)) operation) false read

  pub as_it_is : is_unfinished stated.details.note ≡ false → IsReadIf (is_unfinished stated.details.note) → IsReadIf false
  as_it_is finished applied = subst IsReadIf finished applied
