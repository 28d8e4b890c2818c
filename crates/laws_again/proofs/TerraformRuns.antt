-- Steps, diagnostics and outputs of a run in Terraform's form.
use Rattle.std.proofs.Common.{◌≡◌, ◌∙◌, ◌++◌, ℕ, List, [], length, Bool, cond, false, true, Option, Some, None, refl, sym, ap}
use Rattle.std.specs.Prelude.{flat_map, slice_get}
use Rattle.std.specs.Option.{option_map_or}
use Rattle.apply_model.specs.declared.details.change_details.ChangeDetails.{ChangeDetails}
use Rattle.apply_model.specs.declared.details.output.Output.{Output}
use Rattle.apply_model.specs.declared.plan.step_kind.StepKind.{StepKind}
use Rattle.apply_model.specs.Plan.ResourceChange.{ResourceChange}
use Rattle.apply_model.specs.Plan.SavedPlan.{SavedPlan}
use Rattle.apply_model.specs.Script.OutcomeMap.{OutcomeMap, outcome_of}
use Rattle.apply_events.specs.declared.event.Event.{Event}
use Rattle.apply_events.specs.Totals.{totals_of}
use Rattle.apply_text.specs.declared.operation.Operation.{Operation}
use Rattle.apply_text.specs.declared.operation.Operation.TheVariants.{Apply, Destroy}
use Rattle.apply_text.specs.Latest.{latest_of}
use Rattle.apply_text.specs.Order.{as_written}
use Rattle.apply_text_terraform.specs.Lines.{note_text, outputs_text, summary_text}
use Rattle.apply_text_terraform.specs.Message.{end_id}
use Rattle.apply_writer.specs.Stream.Form.{lines_in, stream_in}
use Rattle.apply_writer.specs.Stream.Terraform.{StreamExtras, contains_error, imported_in, planned_id_of, terraform_form}
use Rattle.laws_lines.specs.Stated.{id_in_form}
use Rattle.laws_outputs.specs.Again.{AreShownAlike}

-- The id that the end of a step of the plan reports is that of its outcome, or the one that the
-- plan gives.
pub id_is : (plan : SavedPlan) (steps : OutcomeMap) (details : List ChangeDetails) (c k : ℕ) (change : ResourceChange) (kind : StepKind)
    → slice_get plan.changes c ≡ Some change → slice_get change.steps k ≡ Some kind
    → id_in_form plan steps details c k ≡ end_id kind (outcome_of steps c k).result (planned_id_of details c)
id_is plan steps details c k change kind change_at kind_at =
    ap (λ (o : Option ResourceChange).
    option_map_or (λ (own : ResourceChange).
    option_map_or (λ (of : StepKind). end_id of (outcome_of steps c k).result (planned_id_of details c)) (slice_get own.steps k) None) o None) change_at
    ∙ ap (λ (o : Option StepKind). option_map_or (λ (of : StepKind). end_id of (outcome_of steps c k).result (planned_id_of details c)) o None) kind_at

-- ---- outputs

module _ (saved : SavedPlan) (steps : OutcomeMap) (extras : StreamExtras) (start : ℕ) (events : List Event) where
  abbrev form_stream : (operation : Operation) → List Output → List ℕ
  form_stream operation outputs =
      stream_in (terraform_form saved steps (record { details = extras.details; notes = extras.notes; outputs = outputs }) start operation) events

  -- the stream of an apply, if there is an error or not
  abbrev shown_if : List Output → (failed : Bool) → List ℕ
  shown_if outputs failed =
      lines_in (terraform_form saved steps (record { details = extras.details; notes = extras.notes; outputs = outputs }) start Apply) (as_written events)
      ++ (flat_map (note_text start (latest_of (as_written events) (length (as_written events)))) extras.notes
      ++ cond failed []
      (summary_text start (latest_of (as_written events) (length (as_written events))) Apply (totals_of saved events) (imported_in extras.details)
      ++ outputs_text start (latest_of (as_written events) (length (as_written events))) outputs))

  -- Outputs that are not shown, or are shown alike, leave the stream as it is.
  pub same_outputs : (operation : Operation) (one other : List Output)
      → (AreShownAlike other one → form_stream operation other ≡ form_stream operation one)
      → (contains_error extras.notes (totals_of saved events) ≡ false → operation ≡ Apply → AreShownAlike other one)
      → form_stream operation other ≡ form_stream operation one
  same_outputs Destroy one other hidden again = refl
  same_outputs Apply one other hidden again = of_test (contains_error extras.notes (totals_of saved events)) refl
    where
      of_test : (failed : Bool) → contains_error extras.notes (totals_of saved events) ≡ failed → form_stream Apply other ≡ form_stream Apply one
      of_test false passed = hidden (again passed refl)
      of_test true failed = ap (shown_if other) failed ∙ sym (ap (shown_if one) failed)
