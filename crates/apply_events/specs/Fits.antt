-- The events that can happen with a plan and a script, whatever the hooks answer.
use Rattle.std.specs.Prelude.{ℕ, ◌<◌, ◌≤◌, ◌==◌, length, slice_get, Bool, true, false, ◌&&◌, not, nat_lt, IsTrue}
use Rattle.std.specs.List.{list_any}
use Rattle.std.specs.Option.{option_map_or}
use Rattle.apply_model.specs.declared.plan.step_kind.StepKind.{StepKind}
use Rattle.apply_model.specs.declared.script.outcome.Outcome.{Outcome}
use Rattle.apply_model.specs.declared.script.provisioner.Provisioner.{Provisioner}
use Rattle.apply_model.specs.Plan.SavedPlan.{SavedPlan}
use Rattle.apply_model.specs.Script.Outcome.{fails, has_failed, is_warned, ran, took}
use Rattle.apply_model.specs.Script.OutcomeMap.{OutcomeMap, outcome_of}
use Rattle.apply_hooks.specs.declared.phase.Phase.{Phase}
use Rattle.apply_hooks.specs.declared.phase.Phase.TheVariants.{Pre, PostDone, PostFailed}
use Rattle.apply_hooks.specs.Hooks.{max_hooks}
use Rattle.apply_events.specs.declared.event.Event.{Event}
use Rattle.apply_events.specs.declared.what.What.{What}
use Rattle.apply_events.specs.declared.what.What.TheVariants.{Start, Progress, Complete, Errored, ErrorNote, WarnNote, Halted, ProvisionStart, ProvisionOutput, ProvisionComplete, ProvisionErrored}
use Rattle.apply_events.specs.ProgressTimes.{progress_times}
use Rattle.apply_events.specs.Step.{has_warning, kinds_applied, kinds_of}

-- The greatest second of an event: 10,000 changes of two steps, each of a day.
abbrev pub latest_second : ℕ
latest_second = 1728000000

-- The longest span of a change, in seconds: two steps, each of a day.
abbrev pub max_span : ℕ
max_span = 172800

-- The plan has step k of change c.
abbrev pub HasStep : SavedPlan → (c k : ℕ) → Type 0
HasStep plan c k = k < length (kinds_of plan c)

-- Step k of change c is applied: the script skips no step of the change up to it.
abbrev pub IsApplied : SavedPlan → OutcomeMap → (c k : ℕ) → Type 0
IsApplied plan script c k = k < length (kinds_applied plan script c)

-- The plan has the step of the event, and the event comes in time.
pub record IsOfPlan (plan : SavedPlan) (event : Event) : Type 0 where
  pub has_step : HasStep plan event.change event.step
  pub in_time : event.at ≤ latest_second

-- Hooks are asked in the phase about a step that fails, or does not.
abbrev pub may_be_asked : (fails : Bool) → Phase → Bool
may_be_asked fails Pre = true
may_be_asked fails PostDone = not fails
may_be_asked fails PostFailed = fails

-- Provisioner i of a step with that outcome runs, and passes the test.
abbrev pub runs : Outcome → (i : ℕ) → (Provisioner → Bool) → Bool
runs outcome i test = option_map_or test (slice_get (ran outcome.provisioners) i) false

-- A step of that kind with that outcome can have the event.
abbrev pub can_happen : StepKind → Outcome → What → Bool
can_happen kind outcome Start = true
can_happen kind outcome (Progress seconds) = list_any (λ time. time == seconds) (progress_times (took kind outcome))
can_happen kind outcome (Complete seconds) =
    not (fails outcome) && not (is_warned outcome.result) && seconds == took kind outcome
can_happen kind outcome (Errored seconds) = fails outcome && seconds == took kind outcome
can_happen kind outcome ErrorNote = fails outcome
can_happen kind outcome WarnNote = not (fails outcome) && has_warning outcome.result
can_happen kind outcome (Halted phase hook) = may_be_asked (fails outcome) phase && nat_lt hook max_hooks
can_happen kind outcome (ProvisionStart i) = runs outcome i (λ provisioner. true)
can_happen kind outcome (ProvisionOutput i line) = runs outcome i (λ provisioner. nat_lt line (length provisioner.output))
can_happen kind outcome (ProvisionComplete i) = runs outcome i (λ provisioner. not (has_failed provisioner))
can_happen kind outcome (ProvisionErrored i) = runs outcome i has_failed

-- The step of the event is applied, and its outcome allows the event.
abbrev pub happens : SavedPlan → OutcomeMap → Event → Bool
happens plan script event =
    option_map_or (λ kind. can_happen kind (outcome_of script event.change event.step) event.what)
    (slice_get (kinds_applied plan script event.change) event.step) false

-- The event can happen. The worker does not matter.
pub record Fits (plan : SavedPlan) (script : OutcomeMap) (event : Event) : Type 0 where
  pub of_plan : IsOfPlan plan event
  pub happens : IsTrue (happens plan script event)
