-- Works whose steps `record` knows: a recorded script makes them go alike.
use Rattle.std.specs.Prelude.{◌≡◌, ◌<◌, ◌≤◌, ℕ, suc, List, [], length, slice_get, true, Option, Some}
use Rattle.std.specs.List.{Contains}
use Rattle.apply_model.specs.declared.plan.step_kind.StepKind.{StepKind}
use Rattle.apply_model.specs.Script.Outcome.{fails}
use Rattle.apply_model.specs.Script.OutcomeMap.{OutcomeMap, outcome_of}
use Rattle.apply_events.specs.Step.{Work, kinds_of}
use Rattle.apply_events.specs.Waits.Schedule.{schedule}
use Rattle.stream_record_outcomes.specs.declared.recorded_step.RecordedStep.{RecordedStep}
use Rattle.stream_record_steps.specs.Begun.{Begun}
use Rattle.stream_record_steps.specs.Steps.{planned_steps}
use Rattle.stream_record_waits.specs.Steps.{has_begun, has_failed, step_at}
use Rattle.stream_record_script.specs.Runs.{recorded_at, steps_of_plan}
use Rattle.laws_lanes.specs.Alike.{IsAnsweredAlike, is_begun}
use Rattle.laws_waits.specs.Kept.{AreKept}
use Rattle.laws_waits.specs.Places.{place_of}
use Rattle.laws_waits.specs.Scripts.{waits_named}

-- The lists have the same items.
pub record HaveSameItems {X : Type 0} (xs ys : List X) : Type 0 where
  pub into : (x : X) → Contains xs x → Contains ys x
  pub back : (x : X) → Contains ys x → Contains xs x

-- What began is of the plan, and so are the outcomes. A change has at most two steps, and the
-- second began only where the first did.
pub record AreStepsOf (work : Work) (begun : Begun) (recorded : List (Option RecordedStep)) : Type 0 where
  pub few : (c : ℕ) → length (kinds_of work.plan c) ≤ 2
  pub planned : begun.planned ≡ planned_steps work.plan.changes
  pub each : length recorded ≡ length begun.planned
  pub in_order : (c k : ℕ) → suc k < length (kinds_of work.plan c)
      → has_begun (steps_of_plan begun recorded) (place_of work.plan.changes c (suc k)) ≡ true
      → has_begun (steps_of_plan begun recorded) (place_of work.plan.changes c k) ≡ true

-- `record` knows the steps that begin in n lanes, without hooks: just these began, those that
-- failed fail in the work, and the outcomes are alike. The graph has the waits that the script of
-- the work names for these steps, and the stream kept them.
pub record IsKnown (work : Work) (n : ℕ) (begun : Begun) (recorded : List (Option RecordedStep)) (graph : List (List ℕ)) : Type 0 where
  pub hooks : work.hooks ≡ []
  pub some : 1 ≤ n
  pub steps : AreStepsOf work begun recorded
  pub begins : (c k : ℕ) → k < length (kinds_of work.plan c)
      → has_begun (steps_of_plan begun recorded) (place_of work.plan.changes c k) ≡ is_begun work (schedule work n) c k
  pub fail : (c k : ℕ) → k < length (kinds_of work.plan c)
      → has_failed (step_at (steps_of_plan begun recorded) (place_of work.plan.changes c k)) ≡ true → fails (outcome_of work.script c k) ≡ true
  pub alike : (c k : ℕ) (kind : StepKind) (found : RecordedStep) → slice_get (kinds_of work.plan c) k ≡ Some kind
      → recorded_at recorded (place_of work.plan.changes c k) ≡ Some found → IsAnsweredAlike kind (outcome_of work.script c k) found.outcome
  pub kept : AreKept (steps_of_plan begun recorded) graph
  pub stated : (c k : ℕ) → k < length (kinds_of work.plan c) → is_begun work (schedule work n) c k ≡ true
      → HaveSameItems (waits_named work.plan graph (place_of work.plan.changes c k)) (outcome_of work.script c k).after

-- The work with another script, without hooks.
abbrev pub with_script : Work → OutcomeMap → Work
with_script work script = record { plan = work.plan; script = script; hooks = [] }
