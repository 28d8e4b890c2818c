-- Schedules of the steps that began, as `record` makes them.
use Rattle.std.specs.Prelude.{◌≡◌, ◌⊎◌, ℕ, List, [], true, false, length, map, slice_index_or, Option, Some, IfSome}
use Rattle.std.specs.List.{range_with_len}
use Rattle.stream_record_waits.specs.declared.course.ReadyTurn.{ReadyTurn}
use Rattle.stream_record_waits.specs.declared.lane_time.LaneTime.{LaneTime}
use Rattle.stream_record_waits.specs.Course.{Basis, Course, after_rounds, behind_at, done_at, end_at, ends_later, first_ready, is_pinned, is_put_back, turns_of}
use Rattle.stream_record_waits.specs.Graph.{waits_at}
use Rattle.stream_record_waits.specs.LaneTime.{IsNoLater, first_earliest, first_lane_time, later_of, next_round}

-- The basis without the order of the stream: no step begins behind another one there.
abbrev pub without_order : Basis → Basis
without_order basis = record { steps = basis.steps; after = basis.after; joined = basis.joined; behind = [] }

-- The waits of each step.
abbrev pub waits_of : Basis → List (List ℕ)
waits_of basis = map (λ step. waits_at basis.after step) (range_with_len 0 (length basis.steps))

-- When a ready turn begins: once the lane that is free first is free.
abbrev pub begin_of : Course → ReadyTurn → LaneTime
begin_of course turn = later_of turn.at (slice_index_or course.free (first_earliest course.free) first_lane_time)

-- A turn that is ready in a round would not be put back.
abbrev pub IsInTime : Basis → Course → Option ReadyTurn → Type 0
IsInTime basis course turn =
    IfSome turn (λ turn. is_put_back basis course turn.step (begin_of course turn) (first_earliest course.free) ≡ false)

-- The steps of the stream begin no earlier than in the schedule that goes by the waits alone: each
-- begins there after the end of the step behind which it begins in the stream.
abbrev pub KeepsTime : Basis → (lanes : ℕ) → Type 0
KeepsTime basis lanes = (rounds : ℕ)
    → IsInTime basis (after_rounds (without_order basis) lanes rounds)
    (first_ready (without_order basis) (after_rounds (without_order basis) lanes rounds) (turns_of basis))

-- ---- behind which step a turn starts

-- A turn was put back, and begins in a later round than the one in which the step is done.
pub record WaitsFor (basis : Basis) (course : Course) (turn : ReadyTurn) (other : ℕ) : Type 0 where
  pub pinned : is_pinned course turn.step ≡ true
  pub done : LaneTime
  pub is : done_at basis course other ≡ Some done
  pub later : IsNoLater (next_round done) (begin_of course turn)

-- The step behind which a turn begins in the stream has ended in the schedule when the turn begins:
-- before it in the time line, or the turn was put back and waits for that step.
abbrev pub StartsBehind : Basis → Course → ReadyTurn → Type 0
StartsBehind basis course turn =
    IfSome (behind_at basis turn.step) (λ other.
    (ends_later (end_at course other) (begin_of course turn) (first_earliest course.free) ≡ false) ⊎ WaitsFor basis course turn other)
