-- What the schedule of a planning tells.
use Rattle.std.specs.Prelude.{◌≡◌, ◌<◌, ◌≤◌, ◌||◌, ℕ, Bool, true, false, not, List, [], ◌∷◌, length, max, reverse, slice_get, slice_index_or}
use Rattle.std.specs.Option.{option_map_or}
use Rattle.apply_events.specs.declared.event.Event.{Event}
use Rattle.apply_events.specs.declared.lanes.turn.StartedTurn.{StartedTurn}
use Rattle.apply_events.specs.Waits.Merging.{time_line}
use Rattle.apply_events.specs.Waits.Schedule.{is_started, schedule}
use Rattle.apply_events.specs.Waits.Turn.{single}
use Rattle.apply_planning.specs.declared.schedule.Schedule.{Schedule}
use Rattle.apply_planning.specs.declared.told.Told.{Told}
use Rattle.apply_planning.specs.PlanningWork.{is_error, max_seconds_in_all, planning_work, seconds_in_all}

-- The greatest second of an event, or 0 where there is none.
abbrev pub last_second : List Event → ℕ
last_second [] = 0
last_second (event ∷ events) = max event.at (last_second events)

-- The told object of that number fails with an error.
abbrev pub fails_at : List Told → (number : ℕ) → Bool
fails_at told number = option_map_or (λ one. is_error one.failure) (slice_get told number) false

-- Some objects began. The object of that number fails with an error, or did not begin.
abbrev pub is_lost_of : List Told → List StartedTurn → (number : ℕ) → Bool
is_lost_of told started number = fails_at told number || not (is_started started (single number 0))

-- The object of that number fails with an error, or never begins.
abbrev pub is_lost : List Told → (lanes number : ℕ) → Bool
is_lost told lanes number = is_lost_of told (schedule (planning_work told) lanes) number

-- The schedule is that of these told objects.
pub record IsScheduleOf (told : List Told) (planned : Schedule) : Type 0 where
  pub some : 0 < planned.lanes
  pub short : seconds_in_all told ≤ max_seconds_in_all
  pub started : reverse planned.started.items ≡ schedule (planning_work told) planned.lanes
  pub ends : planned.ends_at ≡ last_second (time_line (planning_work told) planned.lanes)
  pub in_time : planned.ends_at ≤ max_seconds_in_all
  pub size : length planned.lost.items ≡ length told
  pub lost : (number : ℕ) → number < length told → slice_index_or planned.lost.items number true ≡ is_lost told planned.lanes number
