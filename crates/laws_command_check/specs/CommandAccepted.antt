-- What a checker reads back from the stream of a command, and its verdict on it.
use Rattle.std.specs.Prelude.{◌≡◌, ◌⊎◌, ◌++◌, ◌&&◌, ℕ, List, [], Bool, true, false, flat_map, if◌then◌else◌, length, map, None, Result, Ok, Err}
use Rattle.stream_check.specs.declared.messages.totals.Totals.{Totals}
use Rattle.stream_check.specs.declared.rules.fault.Fault.{Fault}
use Rattle.stream_check.specs.declared.rules.fault.Fault.TheVariants.{Planned}
use Rattle.stream_check.specs.declared.verdict.whole.Whole.{Whole}
use Rattle.stream_check.specs.Lines.{end_of}
use Rattle.stream_check.specs.Message.{Message}
use Rattle.stream_check.specs.Tally.{no_totals}
use Rattle.apply_model.specs.Plan.SavedPlan.{SavedPlan}
use Rattle.apply_model.specs.Script.OutcomeMap.{OutcomeMap}
use Rattle.apply_events.specs.declared.event.Event.{Event}
use Rattle.apply_events.specs.Totals.{totals_of}
use Rattle.apply_text.specs.declared.operation.Operation.{Operation}
use Rattle.apply_text.specs.Order.{as_written}
use Rattle.apply_command.specs.declared.head_line.HeadLine.{HeadLine}
use Rattle.apply_command.specs.Head.{HeadInputs}
use Rattle.apply_writer.specs.Stream.Terraform.{StreamExtras, contains_error}
use Rattle.laws_check.specs.Accepted.{totals_of_counts}
use Rattle.laws_check.specs.Passing.{plain, with_all}
use Rattle.laws_check.specs.ReadBackInForm.{diagnostic_read_back, end_read_back, event_read_back_in_form}
use Rattle.laws_check.specs.Unstarted.{EachStarts, NeverStarts}
use Rattle.laws_command_check.specs.HeadReadBack.{head_read_back, totals_of_plan}

-- all messages of the stream: those before the apply, those of events and of diagnostics of no
-- step, and those of the end, where the plan is applied
abbrev pub command_stream_read_back : HeadInputs → List HeadLine → (applies : Bool) → SavedPlan → OutcomeMap → StreamExtras → Operation → (taken : List Event) → List Message
command_stream_read_back inputs lines applies plan script extras operation taken =
    head_read_back inputs lines
    ++ (flat_map (event_read_back_in_form plan script) (as_written taken)
    ++ (map diagnostic_read_back extras.notes ++ (if applies then end_read_back extras operation (totals_of plan taken) else [])))

-- the answer about a whole stream. Of a plan it has the totals of the plan, of an apply those of
-- its steps.
abbrev pub whole_of_command : (is_plan : Bool) → (planned counted : Totals) → (errors : Bool) → (lines : ℕ) → Whole
whole_of_command is_plan planned counted errors lines = record {
  totals = if is_plan then planned else counted;
  has_errors = errors;
  lines = lines;
  is_plan = is_plan;
  passed = None;
}

-- The stream of a plan, or of an apply whose planning failed, is whole: with `--plan` it is a
-- plan's where the plan is told. Without it, it needs an error.
abbrev pub IsPlanAnswered : (plans told errors : Bool) → Totals → (lines : ℕ) → (E : Type 0) → Result Whole E → Type 0
IsPlanAnswered plans told errors planned lines E answer =
    (plans ≡ true) ⊎ (errors ≡ true) → answer ≡ Ok (whole_of_command (plans && told) planned no_totals errors lines)

-- The stream of an apply is whole, with an error or where each create starts. With `--plan` and an
-- error it may count as a plan's. Else a planned create is left out.
pub record IsApplyAnswered (plan : SavedPlan) (events : List Event) (plans errors : Bool) (planned counted : Totals) (lines : ℕ) (E : Type 0) (left_out : E) (answer : Result Whole E) : Type 0 where
  pub is_whole : (errors ≡ true) ⊎ EachStarts plan events
      → (is_plan : Bool) × (answer ≡ Ok (whole_of_command is_plan planned counted errors lines)) × (is_plan ≡ true → (plans ≡ true) × (errors ≡ true))
  pub leaves : errors ≡ false → (address : List ℕ) → NeverStarts plan events address → answer ≡ Err left_out

-- the answer about the stream of a command, whose plan is applied or not
abbrev pub IsCommandAnswered : (applies : Bool) → SavedPlan → List Event → (plans told errors : Bool) → (planned counted : Totals) → (lines : ℕ) → (E : Type 0) → (left_out : E) → Result Whole E → Type 0
IsCommandAnswered true plan events plans told errors planned counted lines E left_out answer = IsApplyAnswered plan events plans errors planned counted lines E left_out answer
IsCommandAnswered false plan events plans told errors planned counted lines E left_out answer = IsPlanAnswered plans told errors planned lines E answer

-- The messages of the stream are accepted up to its end, with that answer. `told`: the plan is
-- told.
pub record IsCommandTaken (plans told : Bool) (inputs : HeadInputs) (lines : List HeadLine) (applies : Bool) (plan : SavedPlan) (script : OutcomeMap) (extras : StreamExtras) (operation : Operation) (events : List Event) : Type 0 where
  -- the messages, the latest first
  pub messages : List Message
  pub accepted : with_all [] (command_stream_read_back inputs lines applies plan script extras operation events) ≡ Ok messages
  pub as_many : length messages ≡ length (command_stream_read_back inputs lines applies plan script extras operation events)
  pub answer : IsCommandAnswered applies plan events plans told (contains_error extras.notes (totals_of plan events)) (totals_of_plan inputs.totals) (totals_of_counts (totals_of plan events))
      (length (command_stream_read_back inputs lines applies plan script extras operation events)) Fault Planned (end_of (plain plans) messages)
