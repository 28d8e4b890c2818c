-- The schedule: which turn starts when, and in which lane.
use Rattle.std.specs.Prelude.{ℕ, zero, suc, ◌+◌, ◌==◌, ◌&&◌, Bool, not, List, [], ◌∷◌, Option, Some, None, get_or, length, option_map, replicate, set, if◌then◌else◌}
use Rattle.std.specs.List.{list_all, list_any}
use Rattle.apply_events.specs.Step.{Work}
use Rattle.apply_events.specs.declared.lanes.turn.StartedTurn.{StartedTurn}
use Rattle.apply_events.specs.Waits.Done.{end_of_turn, ready_at}
use Rattle.apply_events.specs.declared.lanes.lane_time.LaneTime.{LaneTime}
use Rattle.apply_events.specs.Waits.LaneTime.{first_lane_time, is_earlier, later_of}
use Rattle.apply_events.specs.declared.lanes.turn.Turn.{Turn}
use Rattle.apply_events.specs.Waits.Turn.{turns}

-- ---- the turn that is ready first

-- A turn, and when it is ready.
pub record Ready : Type 0 where
  pub turn : Turn
  pub at : LaneTime

-- Both turns begin with the same step.
abbrev pub is_same_turn : Turn → Turn → Bool
is_same_turn a b = a.change == b.change && a.first == b.first

-- The turn was started.
abbrev pub is_started : List StartedTurn → Turn → Bool
is_started started turn = list_any (λ one. is_same_turn one.turn turn) started

-- The earlier of two ready turns; of two at the same time the first.
abbrev pub earlier_of : Option Ready → Option Ready → Option Ready
earlier_of None b = b
earlier_of (Some a) None = Some a
earlier_of (Some a) (Some b) = if is_earlier b.at a.at then Some b else Some a

-- A turn that is ready at that time.
abbrev pub ready_turn : Turn → LaneTime → Ready
ready_turn turn at = record { turn = turn; at = at }

-- A turn that has not started, if it is ever ready.
abbrev pub next_of : Work → List StartedTurn → Turn → Option Ready
next_of work started turn = if is_started started turn then None else option_map (ready_turn turn) (ready_at work started turn)

-- The turn that is ready first, of these turns that have not started.
abbrev pub first_ready : Work → List StartedTurn → List Turn → Option Ready
first_ready work started [] = None
first_ready work started (turn ∷ others) = earlier_of (next_of work started turn) (first_ready work started others)

-- ---- the lane that is free first

-- The position of the earliest time; of several positions the first.
abbrev pub first_earliest : List LaneTime → ℕ
first_earliest [] = 0
first_earliest (m ∷ ms) = if list_all (λ other. not (is_earlier other m)) ms then 0 else first_earliest ms + 1

-- When each of n lanes is free.
abbrev pub free_after : Work → (n : ℕ) → List StartedTurn → List LaneTime
free_after work n [] = replicate n first_lane_time
free_after work n (started ∷ others) = set (free_after work n others) started.lane (end_of_turn work started)

-- The start of the turn, in the lane that is free first. It begins when the turn is ready and the
-- lane is free.
abbrev pub started_in : (free : List LaneTime) → Ready → StartedTurn
started_in free ready = record {
  turn = ready.turn;
  lane = first_earliest free;
  begin = later_of ready.at (get_or free (first_earliest free) first_lane_time);
}

-- ---- the schedule

-- The started turns with the next start, if there is one.
abbrev pub with_next : Work → (n : ℕ) → List StartedTurn → Option Ready → List StartedTurn
with_next work n started None = started
with_next work n started (Some ready) = started_in (free_after work n started) ready ∷ started

-- The first `count` turns that n lanes start, or fewer if fewer are ever ready. Each time the turn
-- that is ready first starts. The last start is the head of the list.
abbrev pub scheduled : Work → (n count : ℕ) → List StartedTurn
scheduled work n zero = []
scheduled work n (suc count) =
    with_next work n (scheduled work n count) (first_ready work (scheduled work n count) (turns work))

-- All turns that n lanes start. The last start is the head of the list.
abbrev pub schedule : Work → (n : ℕ) → List StartedTurn
schedule work n = scheduled work n (length (turns work))
