-- Lists of events merged by time and lane. The result proves that there is a time line.
use Rattle.std.specs.Prelude.{ℕ, List, [], ◌∷◌, Bool, ◌||◌, ◌&&◌, ◌==◌, nat_le, if◌then◌else◌}
use Rattle.std.specs.List.{range_with_len, flat_map}
use Rattle.apply_events.specs.Step.{Work}
use Rattle.apply_events.specs.declared.event.Event.{Event}
use Rattle.apply_events.specs.declared.lanes.lane_time.LaneTime.{LaneTime}
use Rattle.apply_events.specs.Waits.LaneTime.{is_earlier}
use Rattle.apply_events.specs.Waits.Schedule.{schedule}
use Rattle.apply_events.specs.Waits.TimeLine.{lane_turns, lane_time_of}

-- Both times are equal.
abbrev pub is_same_lane_time : LaneTime → LaneTime → Bool
is_same_lane_time a b = a.second == b.second && a.round == b.round

-- The first event may stand before the second.
abbrev pub may_precede : (when : Event → LaneTime) → Event → Event → Bool
may_precede when e f = is_earlier (when e) (when f) || is_same_lane_time (when e) (when f) && nat_le e.worker f.worker

-- The event inserted before the first event that it may precede.
abbrev pub insert : (when : Event → LaneTime) → Event → List Event → List Event
insert when e [] = e ∷ []
insert when e (f ∷ fs) = if may_precede when e f then e ∷ f ∷ fs else f ∷ insert when e fs

-- Events sorted by time and lane. Events of one lane at the same time keep their order.
abbrev pub sorted : (when : Event → LaneTime) → List Event → List Event
sorted when [] = []
sorted when (e ∷ es) = insert when e (sorted when es)

-- The lists of n lanes, joined and sorted.
abbrev pub merged : (when : Event → LaneTime) → (n : ℕ) → (ℕ → List Event) → List Event
merged when n list = sorted when (flat_map list (range_with_len 0 n))

-- The time line of a work in n lanes.
abbrev pub time_line : Work → (n : ℕ) → List Event
time_line work n = merged (lane_time_of (schedule work n)) n (lane_turns work (schedule work n))
