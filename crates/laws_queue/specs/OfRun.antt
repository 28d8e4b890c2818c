-- The steps that `record` has of the stream of a run of a work without waits, by the events of the
-- run.
use Rattle.std.specs.Prelude.{◌≡◌, ◌<◌, ◌≤◌, ℕ, ◌+◌, ◌==◌, ◌&&◌, Bool, true, false, List, [], ◌∷◌, length, slice_get, take, Option, Some, None, if◌then◌else◌}
use Rattle.std.specs.List.{list_any}
use Rattle.apply_model.specs.declared.plan.step_kind.StepKind.{StepKind}
use Rattle.apply_model.specs.Script.Outcome.{fails, took}
use Rattle.apply_model.specs.Script.OutcomeMap.{outcome_of}
use Rattle.apply_events.specs.declared.event.Event.{Event}
use Rattle.apply_events.specs.declared.what.What.{What}
use Rattle.apply_events.specs.declared.what.What.TheVariants.{Start, Progress, Complete, Errored}
use Rattle.apply_events.specs.Step.{Work, kinds_of}
use Rattle.apply_text.specs.Order.{hook_messages_of}
use Rattle.stream_record_waits.specs.declared.step_of_plan.StepOfPlan.{StepOfPlan}
use Rattle.stream_record_waits.specs.declared.step_of_plan.StepRun.{StepRun}
use Rattle.stream_record_waits.specs.Steps.{is_failure, step_at}
use Rattle.laws_queue.specs.OfLanes.{place_of}

-- ---- events

abbrev pub is_of_step : (c k : ℕ) → Event → Bool
is_of_step c k event = event.change == c && event.step == k

-- The step has an event among these.
abbrev pub has_events : List Event → (c k : ℕ) → Bool
has_events events c k = list_any (is_of_step c k) events

abbrev pub is_start : What → Bool
is_start Start = true
is_start _ = false

abbrev pub is_end : What → Bool
is_end (Complete seconds) = true
is_end (Errored seconds) = true
is_end _ = false

-- The message is about a step, and not about a provisioner.
abbrev pub is_about_step : What → Bool
is_about_step Start = true
is_about_step (Progress seconds) = true
is_about_step (Complete seconds) = true
is_about_step (Errored seconds) = true
is_about_step _ = false

-- ---- lines of hook messages

-- The hook message at a place is of that step, and of that sort.
pub record StandsAt (hooks : List Event) (place c k : ℕ) (is_sort : What → Bool) : Type 0 where
  pub event : Event
  pub is : slice_get hooks place ≡ Some event
  pub of : is_of_step c k event ≡ true
  pub sort : is_sort event.what ≡ true

-- The line of the last of these hook messages that is about a step. The first of them has this
-- place.
abbrev pub latest_of : (line : ℕ → ℕ) → (place : ℕ) → (latest : Option ℕ) → List Event → Option ℕ
latest_of line place latest [] = latest
latest_of line place latest (event ∷ events) =
    latest_of line (place + 1) (if is_about_step event.what then Some (line place) else latest) events

-- The run of step k of change c has the lines of its start, of the last message about a step before
-- that, and of its end. `line` states the line of each hook message, by its place.
pub record HasLines (hooks : List Event) (line : ℕ → ℕ) (c k : ℕ) (run : StepRun) : Type 0 where
  pub start : ℕ
  pub starts : StandsAt hooks start c k is_start
  pub line_is : run.line ≡ line start
  pub previous_is : run.previous ≡ latest_of line 0 None (take start hooks)
  pub end : ℕ
  pub ends : StandsAt hooks end c k is_end
  pub end_is : run.end ≡ Some (line end)

-- ---- steps

-- Step k of change c, which is of that kind, ran as the script answers it.
pub record RanAsAnswered (work : Work) (events : List Event) (line : ℕ → ℕ) (c k : ℕ) (kind : StepKind) (run : StepRun) : Type 0 where
  pub fate : is_failure run.fate ≡ fails (outcome_of work.script c k)
  pub seconds : run.seconds ≡ took kind (outcome_of work.script c k)
  pub lines : HasLines (hook_messages_of events) line c k run

-- The same if the step began.
abbrev pub RanIf : (began : Bool) → Work → List Event → (line : ℕ → ℕ) → (c k : ℕ) → StepKind → Option StepRun → Type 0
RanIf false work events line c k kind run = run ≡ None
RanIf true work events line c k kind run = (its : StepRun) × (run ≡ Some its) × RanAsAnswered work events line c k kind its

pub record IsStepOf (work : Work) (events : List Event) (line : ℕ → ℕ) (c k : ℕ) (kind : StepKind) (step : StepOfPlan) : Type 0 where
  pub first : step.is_first ≡ (k == 0)
  pub ran : RanIf (has_events events c k) work events line c k kind step.run

-- The steps of the stream of a run without hooks, which has these events. Each step has its place
-- in the plan, and each step that began has its end. The lines of hook messages rise.
pub record IsOfRun (work : Work) (events : List Event) (line : ℕ → ℕ) (steps : List StepOfPlan) : Type 0 where
  pub hooks : work.hooks ≡ []
  pub few : (c : ℕ) → length (kinds_of work.plan c) ≤ 2
  pub rises : (i j : ℕ) → i < j → j < length (hook_messages_of events) → line i < line j
  pub each : length steps ≡ place_of work.plan (length work.plan.changes)
  pub are : (c k : ℕ) (kind : StepKind) → slice_get (kinds_of work.plan c) k ≡ Some kind
      → IsStepOf work events line c k kind (step_at steps (place_of work.plan c + k))
