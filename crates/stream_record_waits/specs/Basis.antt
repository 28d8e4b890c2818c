-- What holds of a schedule and of what it goes by, for private clauses.
use Rattle.std.specs.Prelude.{◌≡◌, ◌<◌, ◌≤◌, ◌^◌, ◌*◌, ℕ, ◌+◌, List, All, IfSome, true, drop, length, option_map, slice_index_or, Option, Some, None}
use Rattle.stream_record_waits.specs.declared.basis.StepBasis.{StepBasis}
use Rattle.stream_record_waits.specs.declared.course.LaneCourse.{LaneCourse}
use Rattle.stream_record_waits.specs.declared.course.Mark.{Mark}
use Rattle.stream_record_waits.specs.declared.lane_time.LaneTime.{LaneTime}
use Rattle.stream_record_waits.specs.Course.{Basis, Course, done_at, done_by, end_at, is_joined, later_if_both}
use Rattle.stream_record_waits.specs.Graph.{AreWaitsOf, waits_at}
use Rattle.stream_record_waits.specs.LaneTime.{first_lane_time, next_round}
use Rattle.stream_record_waits.specs.Steps.{lists_in}

-- What the references point to.
abbrev pub basis_of : StepBasis → Basis
basis_of basis = record {
  steps = basis.steps.now;
  after = lists_in basis.after.now;
  joined = basis.joined.now;
  behind = basis.behind.now;
}

abbrev pub course_of : LaneCourse → Course
course_of course = record {
  ends = course.ends.items;
  free = course.free.items;
  pinned = course.pinned.items;
}

-- There is an item for each step, and each wait is of a step that there is.
pub record IsSound (basis : Basis) : Type 0 where
  pub after : AreWaitsOf (length basis.steps) basis.after
  pub joined : length basis.joined ≡ length basis.steps
  pub behind : length basis.behind ≡ length basis.steps
  pub known : All (λ behind. IfSome behind (λ step. step < length basis.steps)) basis.behind
  pub few : length basis.steps ≤ 2 ^ 24

-- A time that so many rounds can reach.
abbrev pub IsWithin : (rounds : ℕ) → LaneTime → Type 0
IsWithin rounds m = (m.second ≤ 2 ^ 33 * rounds) × (m.round ≤ rounds)

-- A course after so many rounds, with an item for each step.
pub record IsCourse (basis : Basis) (rounds : ℕ) (course : Course) : Type 0 where
  pub ends : length course.ends ≡ length basis.steps
  pub pinned : length course.pinned ≡ length basis.steps
  pub lanes : 0 < length course.free
  pub free : All (IsWithin rounds) course.free
  pub in_time : All (λ end. IfSome end (λ end. IsWithin rounds end.at)) course.ends
  pub follow : (step : ℕ) → end_at course step ≡ None → is_joined basis (step + 1) ≡ true → end_at course (step + 1) ≡ None

-- All waits of a step but the first `left` are done. `at` is the latest of the rounds after those
-- in which they are done.
abbrev pub IsMark : Basis → Course → (after : List ℕ) → Mark → Type 0
IsMark basis course after mark = (mark.left ≤ length after) × (done_by basis course (drop mark.left after) ≡ Some mark.at)

-- The mark of a step.
abbrev pub mark_at : List Mark → ℕ → Mark
mark_at marks step = slice_index_or marks step (record { left = 0; at = first_lane_time })

-- A mark for each step.
pub record AreMarks (basis : Basis) (course : Course) (marks : List Mark) : Type 0 where
  pub each : length marks ≡ length basis.steps
  pub are : (step : ℕ) → step < length basis.steps → IsMark basis course (waits_at basis.after step) (mark_at marks step)

-- The most rounds of a schedule.
abbrev pub most_rounds : ℕ
most_rounds = 2 ^ 25

-- The later of a time and of the round after that in which a step is done, if there is a step.
abbrev pub with_further : Basis → Course → Option ℕ → Option LaneTime → Option LaneTime
with_further basis course None at = at
with_further basis course (Some step) at = later_if_both (option_map next_round (done_at basis course step)) at

-- The mark of a step before the first round.
abbrev pub first_mark : (after : List ℕ) → Mark
first_mark after = record { left = length after; at = first_lane_time }
