-- How lanes take up changes that wait for nothing: in the plan's order, each in the lane that is
-- free first.
use Rattle.std.specs.Prelude.{◌≡◌, ℕ, zero, suc, ◌+◌, List, [], ◌∷◌, get_or, replicate, sum_by, take}
use Rattle.apply_model.specs.Script.OutcomeMap.{outcome_of}
use Rattle.apply_events.specs.ChangeEvents.{begun}
use Rattle.apply_events.specs.Lanes.Dealing.{first_least, occupied}
use Rattle.apply_events.specs.Step.{Step, Work, steps_of}
use Rattle.apply_events.specs.StepEvents.{step_time}
use Rattle.apply_events.specs.Waits.Turn.{whole}
use Rattle.apply_events.specs.declared.lanes.turn.StartedTurn.{StartedTurn}

-- No step waits for another.
abbrev pub NamesNone : Work → Type 0
NamesNone work = (c k : ℕ) → (outcome_of work.script c k).after ≡ []

-- The steps of change c that begin.
abbrev pub steps_begun : Work → (c : ℕ) → List Step
steps_begun work c = begun (steps_of work c)

-- When each of n lanes is free, in seconds, after it took up its part of the first changes, that
-- many.
abbrev pub free_after : Work → (n count : ℕ) → List ℕ
free_after work n zero = replicate n 0
free_after work n (suc count) = occupied work count (free_after work n count)

-- The lane of change c, and when the change begins there.
abbrev pub lane_of : Work → (n c : ℕ) → ℕ
lane_of work n c = first_least (free_after work n c)

abbrev pub change_begin : Work → (n c : ℕ) → ℕ
change_begin work n c = get_or (free_after work n c) (lane_of work n c) 0

-- When step k of change c begins, and when it ends.
abbrev pub step_begin : Work → (n c k : ℕ) → ℕ
step_begin work n c k = change_begin work n c + sum_by step_time (take k (steps_begun work c))

abbrev pub step_end : Work → (n c k : ℕ) → ℕ
step_end work n c k = step_begin work n c (k + 1)

-- Change c, as a lane starts it: as one turn, in the first round of a second.
abbrev pub started_change : Work → (n c : ℕ) → StartedTurn
started_change work n c = record {
  turn = whole work c;
  lane = lane_of work n c;
  begin = record { second = change_begin work n c; round = 0 };
}

-- The first changes, that many. The last start is the head of the list.
abbrev pub started_changes : Work → (n count : ℕ) → List StartedTurn
started_changes work n zero = []
started_changes work n (suc count) = started_change work n count ∷ started_changes work n count
