-- What a command prints and applies, by what was made of its inputs.
use Rattle.std.proofs.Common.{◌≡◌, ◌∙◌, ◌&&◌, ap, ap₂, ℕ, Bool, List, map}
use Rattle.std.specs.List.{filter_map, list_any}
use Rattle.apply_model.specs.declared.details.note.Note.{Note}
use Rattle.apply_events.specs.declared.event.Event.{Event}
use Rattle.apply_events.specs.Waits.Merging.{time_line}
use Rattle.apply_planning.specs.declared.told.Told.{Told}
use Rattle.apply_planning.specs.PlanningWork.{planning_work}
use Rattle.apply_planning.specs.Schedule.{last_second}
use Rattle.apply_planning_failures.specs.Planning.{Planning, planning_notes}
use Rattle.apply_planning_failures.specs.PlansPart.{details_at, kept}
use Rattle.apply_prior.specs.declared.drift.Drift.{Drift}
use Rattle.apply_text_planning.specs.Totals.{planned_totals}
use Rattle.apply_text_planning.specs.declared.plan_totals.PlanTotals.{PlanTotals}
use Rattle.apply_text_terraform.specs.declared.command.Command.{Command}
use Rattle.apply_writer.specs.Stream.Terraform.{is_error}
use Rattle.apply_command.specs.declared.head_line.HeadLine.{HeadLine}
use Rattle.apply_command.specs.Head as head
use Rattle.apply_command.specs.Notes as specs
use Rattle.apply_command.specs.Reading.{CommandInputs, failed, head_inputs, kept_changes, kept_drifts, lines, planning}

abbrev pub made_of : List Told → List Event → Planning
made_of told events = record { told = told; events = events }

module _ (command : Command) (lanes : ℕ) (read : CommandInputs) (events : List Event) (events_are : events ≡ time_line (planning_work read.told) lanes) where
  pub planning_is : made_of read.told events ≡ planning command lanes read
  planning_is = ap (made_of read.told) events_are

  pub notes_are : (failures : List Note) → failures ≡ planning_notes (made_of read.told events) → failures ≡ planning_notes (planning command lanes read)
  notes_are failures is = is ∙ ap planning_notes planning_is

  pub severe_is : (failures : List Note) (severe : Bool) → failures ≡ planning_notes (made_of read.told events) → severe ≡ list_any is_error failures
      → severe ≡ list_any is_error (planning_notes (planning command lanes read))
  severe_is failures severe is any_is = any_is ∙ ap (list_any is_error) (notes_are failures is)

  pub took_is : (took : ℕ) → took ≡ last_second events → took ≡ (head_inputs command lanes read 0).took
  took_is took is = is ∙ ap last_second events_are

  pub drifts_are : (failed_now : Bool) → failed_now ≡ failed command lanes read → (numbers : List ℕ)
      → numbers ≡ kept failed_now (made_of read.told events) (map (λ (drift : Drift). drift.change) read.drifts) → numbers ≡ kept_drifts command lanes read
  drifts_are failed_now failed_is numbers is = is ∙ ap₂ (λ f p. kept f p (map (λ (drift : Drift). drift.change) read.drifts)) failed_is planning_is

  pub changes_are : (failed_now : Bool) → failed_now ≡ failed command lanes read → (numbers : List ℕ)
      → numbers ≡ kept failed_now (made_of read.told events) read.stated.plan.changes → numbers ≡ kept_changes command lanes read
  changes_are failed_now failed_is numbers is = is ∙ ap₂ (λ f p. kept f p read.stated.plan.changes) failed_is planning_is

  pub totals_are : (failed_now : Bool) → failed_now ≡ failed command lanes read → (totals : PlanTotals)
      → totals ≡ planned_totals (filter_map (details_at read.stated.plan.changes read.stated.details.changes) (kept failed_now (made_of read.told events) read.stated.plan.changes))
      → totals ≡ (head_inputs command lanes read 0).totals
  totals_are failed_now failed_is totals is =
      is ∙ ap₂ (λ f p. planned_totals (filter_map (details_at read.stated.plan.changes read.stated.details.changes) (kept f p read.stated.plan.changes))) failed_is planning_is

  pub lines_are : (told : Bool) → told ≡ specs.tells_plan command (failed command lanes read) (planning_notes (planning command lanes read)) (head.is_none read.stated.plan.changes && head.is_none read.outputs)
      → (drifts changes : List ℕ) → drifts ≡ kept_drifts command lanes read → changes ≡ kept_changes command lanes read
      → (made : List HeadLine) → made ≡ head.plan_lines told drifts changes read.outputs → head.head_lines (time_line (planning_work read.told) lanes) made ≡ lines command lanes read
  lines_are told told_is drifts changes drifts_is changes_is made is =
      ap (head.head_lines (time_line (planning_work read.told) lanes))
      (is
      ∙ ap (λ t. head.plan_lines t drifts changes read.outputs) told_is
      ∙ ap₂ (λ ds cs. head.plan_lines (specs.tells_plan command (failed command lanes read) (planning_notes (planning command lanes read)) (head.is_none read.stated.plan.changes && head.is_none read.outputs)) ds cs read.outputs)
      drifts_is changes_is)
