-- The steps that `record` has of the stream of a run of a work without waits, by the lanes in which
-- the run took them up.
use Rattle.std.specs.Prelude.{◌≡◌, ◌<◌, ◌≤◌, ℕ, zero, suc, ◌+◌, ◌==◌, List, [], length, not, slice_get, true, Option, Some, None}
use Rattle.apply_model.specs.Plan.SavedPlan.{SavedPlan}
use Rattle.apply_events.specs.Step.{Step, Work, kinds_of}
use Rattle.apply_events.specs.StepEvents.{goes_on, step_time}
use Rattle.stream_record_waits.specs.declared.step_of_plan.StepOfPlan.{StepOfPlan}
use Rattle.stream_record_waits.specs.declared.step_of_plan.StepRun.{StepRun}
use Rattle.stream_record_waits.specs.Graph.{waits_at}
use Rattle.stream_record_waits.specs.Steps.{has_begun, is_failure, step_at}
use Rattle.laws_queue.specs.Dealing.{change_begin, lane_of, step_end, steps_begun}

-- ---- places

-- The place of the first step of change c: how many steps the changes before it have.
abbrev pub place_of : SavedPlan → (c : ℕ) → ℕ
place_of plan zero = 0
place_of plan (suc c) = place_of plan c + length (kinds_of plan c)

-- How step k of change c ran.
abbrev pub run_of : SavedPlan → List StepOfPlan → (c k : ℕ) → Option StepRun
run_of plan steps c k = (step_at steps (place_of plan c + k)).run

-- ---- one step

-- The step of the stream failed if the step of the run does not go on, and takes as long.
pub record IsRunOf (step : Step) (run : StepRun) : Type 0 where
  pub fate : is_failure run.fate ≡ not (goes_on step)
  pub seconds : run.seconds ≡ step_time step

-- A step ran in the stream if it began in the run.
abbrev pub RanAs : Option Step → Option StepRun → Type 0
RanAs None run = run ≡ None
RanAs (Some step) run = (its : StepRun) × (run ≡ Some its) × IsRunOf step its

-- Step k of change c.
pub record IsStepOf (work : Work) (c k : ℕ) (step : StepOfPlan) : Type 0 where
  pub first : step.is_first ≡ (k == 0)
  pub ran : RanAs (slice_get (steps_begun work c) k) step.run

-- ---- all steps

-- Step k of change d has ended when change c begins: no later, at that time in no higher lane, and
-- in its lane only if it is of an earlier change.
abbrev pub EndsBefore : Work → (lanes d k c : ℕ) → Type 0
EndsBefore work lanes d k c =
    (step_end work lanes d k ≤ change_begin work lanes c)
    × (step_end work lanes d k ≡ change_begin work lanes c → lane_of work lanes d ≤ lane_of work lanes c)
    × (lane_of work lanes d ≡ lane_of work lanes c → d < c)

-- The plan has a change, and the change a step k.
abbrev pub HasStep : Work → (c k : ℕ) → Type 0
HasStep work c k = (c < length work.plan.changes) × (k < length (kinds_of work.plan c))

-- The second step of a change follows the first one at once.
abbrev pub Follows : StepRun → StepRun → Type 0
Follows first second = (end : ℕ) × (first.end ≡ Some end) × (second.previous ≡ Some end)

-- No wait was found for a step that began.
abbrev pub HasNoWaits : List StepOfPlan → (found : List (List ℕ)) → Type 0
HasNoWaits steps found = (step : ℕ) → has_begun steps step ≡ true → waits_at found step ≡ []

-- The steps of the stream of a run in lanes. What ends in the stream before a change starts there
-- has ended in the run by then.
pub record IsOfLanes (work : Work) (lanes : ℕ) (steps : List StepOfPlan) : Type 0 where
  pub few : (c : ℕ) → length (kinds_of work.plan c) ≤ 2
  pub each : length steps ≡ place_of work.plan (length work.plan.changes)
  pub are : (c k : ℕ) → HasStep work c k → IsStepOf work c k (step_at steps (place_of work.plan c + k))
  pub follow : (c : ℕ) (first second : StepRun) → HasStep work c 1 → run_of work.plan steps c 0 ≡ Some first
      → run_of work.plan steps c 1 ≡ Some second → Follows first second
  pub in_order : (c d k : ℕ) (run other : StepRun) (end : ℕ) → HasStep work c 0 → HasStep work d k
      → run_of work.plan steps c 0 ≡ Some run → run_of work.plan steps d k ≡ Some other
      → other.end ≡ Some end → end < run.line → EndsBefore work lanes d k c
