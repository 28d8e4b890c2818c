-- What a line states, and what has to hold of the texts that it tells.
use Rattle.std.specs.Prelude.{◌≡◌, ◌≢◌, ℕ, List, [], ◌∷◌, ◌++◌, pos, false, Option, Some, None, slice_get, ⊤}
use Rattle.std.specs.Option.{option_map_or}
use Rattle.apply_model.specs.declared.details.change_details.ChangeDetails.{ChangeDetails}
use Rattle.apply_model.specs.declared.script.outcome.Outcome.{Outcome}
use Rattle.apply_model.specs.Plan.SavedPlan.{SavedPlan}
use Rattle.apply_model.specs.Script.OutcomeMap.{OutcomeMap, outcome_of}
use Rattle.apply_events.specs.declared.what.What.{What}
use Rattle.apply_events.specs.declared.what.What.TheVariants.{ProvisionStart, ProvisionOutput, ProvisionComplete, ProvisionErrored}
use Rattle.apply_text.specs.declared.operation.Operation.{Operation}
use Rattle.apply_text.specs.declared.operation.Operation.TheVariants.{Apply, Destroy}
use Rattle.apply_text.specs.Laws.{line_feeds}
use Rattle.apply_text.specs.Message.{end_id, name_of}
use Rattle.apply_text_terraform.specs.Message as terraform
use Rattle.apply_writer.specs.Stream.Terraform.{planned_id_of}
use Rattle.stream_record_lines.specs.declared.event.Event.{Event}
use Rattle.stream_record_lines.specs.declared.stated_line.StatedLine.TheVariants.{Message}
use Rattle.stream_record_lines.specs.declared.stated_message.StatedMessage.{StatedMessage}
use Rattle.stream_record_lines.specs.declared.summary.Summary.{Summary}
use Rattle.stream_record_lines.specs.declared.summary.Summary.TheVariants as sums
use Rattle.stream_record_lines.specs.Lines.{stated_line}
use Rattle.laws_begun.specs.Telling.{Telling}

-- The line is one text and its line feed, and `record` reads this message of the text.
pub record IsStatedAs (line : List ℕ) (message : StatedMessage) : Type 0 where
  pub text : List ℕ
  pub line_is : line ≡ text ++ 10 ∷ []
  pub no_feed : line_feeds text ≡ 0
  pub stated : stated_line false text ≡ Message message

-- an event in that second after the start of 1970
abbrev pub stated_at : (second : ℕ) → Event → StatedMessage
stated_at second event = record { second = Some (pos second); event = event }

-- A provisioner whose name is empty is read under another name.
abbrev pub IsNamed : Outcome → What → Type 0
IsNamed outcome (ProvisionStart i) = name_of outcome i ≢ []
IsNamed outcome (ProvisionOutput i line) = name_of outcome i ≢ []
IsNamed outcome (ProvisionComplete i) = name_of outcome i ≢ []
IsNamed outcome (ProvisionErrored i) = name_of outcome i ≢ []
IsNamed outcome _ = ⊤

-- ---- the default form

-- The id that the end of a step reports; none for a step that the plan does not have.
abbrev pub id_of : SavedPlan → OutcomeMap → (change step : ℕ) → Option (List ℕ)
id_of plan script c k =
    option_map_or (λ change. option_map_or (λ kind. end_id kind (outcome_of script c k).result) (slice_get change.steps k) None)
    (slice_get plan.changes c) None

abbrev pub told_by : SavedPlan → OutcomeMap → Telling
told_by plan script = record { plan = plan; script = script; id = id_of plan script }

-- ---- Terraform's form

abbrev pub id_in_form : SavedPlan → OutcomeMap → List ChangeDetails → (change step : ℕ) → Option (List ℕ)
id_in_form plan script details c k =
    option_map_or (λ change.
    option_map_or (λ kind. terraform.end_id kind (outcome_of script c k).result (planned_id_of details c)) (slice_get change.steps k) None)
    (slice_get plan.changes c) None

abbrev pub told_in_form : SavedPlan → OutcomeMap → List ChangeDetails → Telling
told_in_form plan script details = record { plan = plan; script = script; id = id_in_form plan script details }

-- ---- the end

abbrev pub summary_of : Operation → Summary
summary_of Apply = sums.Apply
summary_of Destroy = sums.Destroy
