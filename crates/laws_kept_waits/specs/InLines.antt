-- Runs in lanes, and what `record` knows of their steps by the lines of a stream.
use Rattle.std.specs.Prelude.{◌≡◌, ◌<◌, ◌≤◌, ◌++◌, ◌∷◌, ℕ, List, [], length, slice_get, true, false, Option, Some}
use Rattle.apply_model.specs.declared.plan.step_kind.StepKind.{StepKind}
use Rattle.apply_model.specs.declared.script.wait.Wait.{Wait}
use Rattle.apply_model.specs.Script.Outcome.{fails}
use Rattle.apply_model.specs.Script.OutcomeMap.{outcome_of}
use Rattle.apply_events.specs.declared.event.Event.{Event}
use Rattle.apply_events.specs.Step.{Work, kinds_of}
use Rattle.apply_events.specs.Waits.Schedule.{schedule}
use Rattle.apply_events.specs.Waits.TimeLine.{IsTimeLine}
use Rattle.apply_text.specs.Order.{hook_messages_of}
use Rattle.stream_record_outcomes.specs.declared.recorded_step.RecordedStep.{RecordedStep}
use Rattle.stream_record_script.specs.Runs.{recorded_at, steps_of_plan}
use Rattle.stream_record_steps.specs.Begun.{Begun}
use Rattle.stream_record_steps.specs.Steps.{planned_steps}
use Rattle.stream_record_waits.specs.declared.step_of_plan.RunFate.TheVariants.{Done}
use Rattle.stream_record_waits.specs.declared.step_of_plan.StepRun.{StepRun}
use Rattle.stream_record_waits.specs.Steps.{has_begun, step_at}
use Rattle.laws_lanes.specs.Alike.{IsAnsweredAlike, is_begun}
use Rattle.laws_run.specs.WaitingSteps.{has_events, is_of_step}
use Rattle.laws_waits.specs.Again.{HaveSameItems}
use Rattle.laws_waits.specs.Places.{place_of}
use Rattle.laws_waits.specs.Scripts.{waits_named}

-- The events are the time line of a work in n lanes, without hooks. A change has at most two steps.
pub record IsRun (work : Work) (n : ℕ) (events : List Event) : Type 0 where
  pub hooks : work.hooks ≡ []
  pub some : 1 ≤ n
  pub few : (c : ℕ) → length (kinds_of work.plan c) ≤ 2
  pub line : IsTimeLine work n events

-- After an event of the second step comes no event of the first.
abbrev pub EndsBefore : List Event → (first second : Wait) → Type 0
EndsBefore events first second = (before after : List Event) (event : Event) → events ≡ before ++ event ∷ after
    → is_of_step second event ≡ true → has_events after first ≡ false

-- The step completed, and has a line of its end.
pub record HasCompleted (run : StepRun) : Type 0 where
  pub fate : run.fate ≡ Done
  pub end : ℕ
  pub end_is : run.end ≡ Some end

-- How step k of change c ran, by what `record` knows.
abbrev pub RanAs : Work → Begun → List (Option RecordedStep) → (c k : ℕ) → StepRun → Type 0
RanAs work begun recorded c k run =
    (k < length (kinds_of work.plan c)) × ((step_at (steps_of_plan begun recorded) (place_of work.plan.changes c k)).run ≡ Some run)

-- Where all hook messages of one step come before those of another, the line of its end comes
-- before that of the other's start.
abbrev pub ComeInTurn : Work → List Event → Begun → List (Option RecordedStep) → Type 0
ComeInTurn work events begun recorded = (first second : Wait) (run later : StepRun) (end : ℕ)
    → RanAs work begun recorded first.change first.step run → RanAs work begun recorded second.change second.step later
    → run.end ≡ Some end → EndsBefore (hook_messages_of events) first second → end < later.line

-- `record` knows the steps of a run: just those began that begin, and those of them that do not
-- fail completed. The lines come in the order of the hook messages.
pub record AreInLines (work : Work) (n : ℕ) (events : List Event) (begun : Begun) (recorded : List (Option RecordedStep)) : Type 0 where
  pub planned : begun.planned ≡ planned_steps work.plan.changes
  pub each : length recorded ≡ length begun.planned
  pub begins : (c k : ℕ) → k < length (kinds_of work.plan c)
      → has_begun (steps_of_plan begun recorded) (place_of work.plan.changes c k) ≡ is_begun work (schedule work n) c k
  pub completed : (c k : ℕ) (run : StepRun) → RanAs work begun recorded c k run → fails (outcome_of work.script c k) ≡ false → HasCompleted run
  pub in_turn : ComeInTurn work events begun recorded

-- Each recorded outcome is alike.
abbrev pub AreAnsweredAlike : Work → List (Option RecordedStep) → Type 0
AreAnsweredAlike work recorded = (c k : ℕ) (kind : StepKind) (found : RecordedStep) → slice_get (kinds_of work.plan c) k ≡ Some kind
    → recorded_at recorded (place_of work.plan.changes c k) ≡ Some found → IsAnsweredAlike kind (outcome_of work.script c k) found.outcome

-- The graph has the waits that the script names for the steps that begin.
abbrev pub StatesWaits : Work → (n : ℕ) → (graph : List (List ℕ)) → Type 0
StatesWaits work n graph = (c k : ℕ) → k < length (kinds_of work.plan c) → is_begun work (schedule work n) c k ≡ true
    → HaveSameItems (waits_named work.plan graph (place_of work.plan.changes c k)) (outcome_of work.script c k).after
