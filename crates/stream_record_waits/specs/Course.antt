-- The schedule of the steps that began, in lanes. In it a step waits for the step behind which it
-- begins in the stream, where it would begin too early otherwise.
use Rattle.std.specs.Prelude.{ℕ, zero, suc, ◌+◌, ◌*◌, ◌&&◌, ◌||◌, List, [], ◌∷◌, ◌++◌, Bool, true, false, filter, is_some, length, map, nat_lt, not, option_map, option_to_list, replicate, set, slice_index_or, Option, Some, None, if◌then◌else◌}
use Rattle.std.specs.List.{range_with_len}
use Rattle.std.specs.Option.{option_map_or}
use Rattle.stream_record_waits.specs.declared.lane_time.LaneTime.{LaneTime}
use Rattle.stream_record_waits.specs.declared.course.LaneEnd.{LaneEnd}
use Rattle.stream_record_waits.specs.declared.course.ReadyTurn.{ReadyTurn}
use Rattle.stream_record_waits.specs.declared.step_of_plan.StepOfPlan.{StepOfPlan}
use Rattle.stream_record_waits.specs.Graph.{waits_at}
use Rattle.stream_record_waits.specs.LaneTime.{first_earliest, first_lane_time, is_earlier, later_by, later_of, next_round}
use Rattle.stream_record_waits.specs.Steps.{has_begun, is_failure, step_at, step_before}

-- What a schedule goes by: the steps and their waits, which steps run in one turn with the step
-- before them, and the step behind which each begins in the stream.
pub record Basis : Type 0 where
  pub steps : List StepOfPlan
  pub after : List (List ℕ)
  pub joined : List Bool
  pub behind : List (Option ℕ)

-- A schedule under way: when each step ends and in which lane, when each lane is free, and which
-- steps were put back.
pub record Course : Type 0 where
  pub ends : List (Option LaneEnd)
  pub free : List LaneTime
  pub pinned : List Bool

-- ---- steps

-- A step began, and did not fail. So what waits for it may begin.
abbrev pub goes_on : Basis → ℕ → Bool
goes_on basis step = option_map_or (λ run. not (is_failure run.fate)) (step_at basis.steps step).run false

abbrev pub seconds_at : Basis → ℕ → ℕ
seconds_at basis step = option_map_or (λ run. run.seconds) (step_at basis.steps step).run 0

abbrev pub is_joined : Basis → ℕ → Bool
is_joined basis step = slice_index_or basis.joined step false

abbrev pub behind_at : Basis → ℕ → Option ℕ
behind_at basis step = slice_index_or basis.behind step None

-- The steps with which turns begin.
abbrev pub begins_turn : Basis → ℕ → Bool
begins_turn basis step = has_begun basis.steps step && not (is_joined basis step)

abbrev pub turns_of : Basis → List ℕ
turns_of basis = filter (begins_turn basis) (range_with_len 0 (length basis.steps))

-- ---- when a turn is ready

abbrev pub end_at : Course → ℕ → Option LaneEnd
end_at course step = slice_index_or course.ends step None

abbrev pub is_pinned : Course → ℕ → Bool
is_pinned course step = slice_index_or course.pinned step false

-- When a step is done.
abbrev pub done_at : Basis → Course → ℕ → Option LaneTime
done_at basis course step = if goes_on basis step then option_map (λ end. end.at) (end_at course step) else None

-- The step for which a step waits because it was put back.
abbrev pub pin_at : Basis → Course → ℕ → Option ℕ
pin_at basis course step = if is_pinned course step then behind_at basis step else None

-- The steps for which the turn waits that begins with a step.
abbrev pub turn_waits : Basis → Course → ℕ → List ℕ
turn_waits basis course step =
    option_to_list (pin_at basis course step) ++ (option_to_list (step_before basis.steps step) ++ waits_at basis.after step)

-- The later of two times. It is never if one of the times is never.
abbrev pub later_if_both : Option LaneTime → Option LaneTime → Option LaneTime
later_if_both None b = None
later_if_both (Some a) None = None
later_if_both (Some a) (Some b) = Some (later_of a b)

-- When steps are all done: the latest of the rounds after those in which they are done.
abbrev pub done_by : Basis → Course → List ℕ → Option LaneTime
done_by basis course [] = Some first_lane_time
done_by basis course (step ∷ steps) = later_if_both (option_map next_round (done_at basis course step)) (done_by basis course steps)

abbrev pub ready_at : Basis → Course → ℕ → Option LaneTime
ready_at basis course step = done_by basis course (turn_waits basis course step)

-- ---- the turn that is ready first

abbrev pub ready_turn : ℕ → LaneTime → ReadyTurn
ready_turn step at = record { step = step; at = at }

-- A turn that has not started, if it is ever ready.
abbrev pub next_of : Basis → Course → ℕ → Option ReadyTurn
next_of basis course step = if is_some (end_at course step) then None else option_map (ready_turn step) (ready_at basis course step)

-- The earlier of two ready turns; of two at the same time the first.
abbrev pub earlier_of : Option ReadyTurn → Option ReadyTurn → Option ReadyTurn
earlier_of None b = b
earlier_of (Some a) None = Some a
earlier_of (Some a) (Some b) = if is_earlier b.at a.at then Some b else Some a

-- The turn that is ready first, of these turns that have not started.
abbrev pub first_ready : Basis → Course → List ℕ → Option ReadyTurn
first_ready basis course [] = None
first_ready basis course (step ∷ steps) = earlier_of (next_of basis course step) (first_ready basis course steps)

-- ---- one round

-- A step has no end yet, or its end stands in the time line after the begin of a turn then and
-- there.
abbrev pub ends_later : Option LaneEnd → (begin : LaneTime) → (lane : ℕ) → Bool
ends_later None begin lane = true
ends_later (Some end) begin lane = is_earlier begin end.at || not (is_earlier end.at begin) && nat_lt lane end.lane

-- A turn is put back once, where it would begin before the end of the step behind which it begins
-- in the stream.
abbrev pub is_put_back : Basis → Course → ℕ → (begin : LaneTime) → (lane : ℕ) → Bool
is_put_back basis course step begin lane =
    not (is_pinned course step) && option_map_or (λ other. ends_later (end_at course other) begin lane) (behind_at basis step) false

abbrev pub with_pin : Course → ℕ → Course
with_pin course step = record { ends = course.ends; free = course.free; pinned = set course.pinned step true }

-- A step ends then and there. A lane is then free.
abbrev pub with_end : Course → ℕ → (at : LaneTime) → (lane : ℕ) → Course
with_end course step at lane = record {
  ends = set course.ends step (Some (record { at = at; lane = lane }));
  free = set course.free lane at;
  pinned = course.pinned;
}

-- A turn starts. Its second step begins where the first one ends, if that goes on.
abbrev pub with_second : Basis → Course → ℕ → (at : LaneTime) → (lane : ℕ) → Course
with_second basis course step at lane =
    if goes_on basis step && is_joined basis (step + 1) then with_end course (step + 1) (later_by (seconds_at basis (step + 1)) at) lane else course

abbrev pub with_turn : Basis → Course → ℕ → (begin : LaneTime) → (lane : ℕ) → Course
with_turn basis course step begin lane =
    let end = later_by (seconds_at basis step) begin in with_second basis (with_end course step end lane) step end lane

-- A turn that is ready is put back, or starts in the lane that is free first.
abbrev pub with_next : Basis → Course → (begin : LaneTime) → (lane : ℕ) → ℕ → Course
with_next basis course begin lane step =
    if is_put_back basis course step begin lane then with_pin course step else with_turn basis course step begin lane

abbrev pub after_next : Basis → Course → Option ReadyTurn → Course
after_next basis course None = course
after_next basis course (Some turn) =
    let lane = first_earliest course.free in
    with_next basis course (later_of turn.at (slice_index_or course.free lane first_lane_time)) lane turn.step

abbrev pub after_round : Basis → Course → Course
after_round basis course = after_next basis course (first_ready basis course (turns_of basis))

-- ---- the schedule

-- Before the first round.
abbrev pub first_course : (count lanes : ℕ) → Course
first_course count lanes = record {
  ends = replicate count None;
  free = replicate lanes first_lane_time;
  pinned = replicate count false;
}

abbrev pub after_rounds : Basis → (lanes rounds : ℕ) → Course
after_rounds basis lanes zero = first_course (length basis.steps) lanes
after_rounds basis lanes (suc rounds) = after_round basis (after_rounds basis lanes rounds)

-- After all rounds. Each turn is put back once at most, and starts once.
abbrev pub schedule : Basis → (lanes : ℕ) → Course
schedule basis lanes = after_rounds basis lanes (2 * length basis.steps)

-- ---- the waits with those of the steps that were put back

-- The numbers in their order with one more, unless it is there.
abbrev pub with_wait : Option ℕ → List ℕ → List ℕ
with_wait None numbers = numbers
with_wait (Some wait) numbers = filter (λ number. nat_lt number wait) numbers ++ wait ∷ filter (λ number. nat_lt wait number) numbers

abbrev pub first_pinned : Basis → Course → (count : ℕ) → List (List ℕ)
first_pinned basis course count = map (λ step. with_wait (pin_at basis course step) (waits_at basis.after step)) (range_with_len 0 count)

abbrev pub pinned_waits : Basis → (lanes : ℕ) → List (List ℕ)
pinned_waits basis lanes = first_pinned basis (schedule basis lanes) (length basis.steps)
