-- Turns that can start when they do.
use Rattle.std.specs.Prelude.{◌≡◌, ℕ, ◌+◌, ◌-◌, ◌*◌, ◌<◌, ◌≤◌, ◌==◌, ◌&&◌, Bool, true, length, take}
use Rattle.std.specs.List.{list_all, list_any}
use Rattle.apply_model.specs.Plan.SavedPlan.{SavedPlan}
use Rattle.apply_model.specs.Script.Limits.{max_seconds}
use Rattle.apply_model.specs.Script.Outcome.{IsBounded}
use Rattle.apply_model.specs.Script.OutcomeMap.{OutcomeMap, outcome_of}
use Rattle.apply_events.specs.declared.lanes.turn.StartedTurn.{StartedTurn}
use Rattle.apply_events.specs.declared.lanes.turn.Turn.{Turn}
use Rattle.apply_events.specs.ChangeEvents.{first_time}
use Rattle.apply_events.specs.Fits.{IsApplied, latest_second}
use Rattle.apply_events.specs.Step.{Work, kinds_of, steps_of}
use Rattle.apply_events.specs.StepEvents.{goes_on}
use Rattle.apply_events.specs.Waits.Turn.{turns}

-- The two turns are equal.
abbrev pub is_that_turn : Turn → Turn → Bool
is_that_turn a b = a.change == b.change && a.first == b.first && a.count == b.count

-- The work has the turn.
abbrev pub has_turn : Work → Turn → Bool
has_turn work turn = list_any (λ other. is_that_turn other turn) (turns work)

-- The turn is one of the work's, with two steps at most. All steps of its change end in time, even
-- if each takes a day. If the turn begins with the second step, the first step has gone on, and its
-- time is over.
pub record IsStartable (work : Work) (one : StartedTurn) : Type 0 where
  pub known : has_turn work one.turn ≡ true
  pub change : one.turn.change < length work.plan.changes
  pub few : length (kinds_of work.plan one.turn.change) ≤ 2
  pub first : one.turn.first ≤ 1
  pub last : one.turn.first + one.turn.count ≤ 2
  pub in_time : one.begin.second + max_seconds * (2 - one.turn.first) ≤ latest_second
  pub has_step : 0 < one.turn.first → IsApplied work.plan work.script one.turn.change 0
  pub went_on : 0 < one.turn.first → list_all goes_on (take 1 (steps_of work one.turn.change)) ≡ true
  pub late : 0 < one.turn.first → first_time work one.turn.change ≤ one.begin.second

-- The change has two steps at most, each within the limits of a script.
pub record AreWithinLimits (plan : SavedPlan) (script : OutcomeMap) (c : ℕ) : Type 0 where
  pub few : length (kinds_of plan c) ≤ 2
  pub first : IsBounded (outcome_of script c 0)
  pub second : IsBounded (outcome_of script c 1)
