-- Lists of events merged by second and lane. The result proves that a work without waits has a time
-- line.
use Rattle.std.specs.Prelude.{ℕ, List, [], ◌∷◌, Bool, ◌||◌, ◌&&◌, ◌==◌, nat_le, nat_lt, if◌then◌else◌}
use Rattle.std.specs.List.{range_with_len, flat_map}
use Rattle.apply_events.specs.declared.event.Event.{Event}
use Rattle.apply_events.specs.Step.{Work}
use Rattle.apply_events.specs.Lanes.TimeLine.{lane_events}

-- The first event may stand before the second.
abbrev pub may_precede : Event → Event → Bool
may_precede e f = nat_lt e.at f.at || (e.at == f.at && nat_le e.worker f.worker)

-- The event inserted before the first event that it may precede.
abbrev pub insert : Event → List Event → List Event
insert e [] = e ∷ []
insert e (f ∷ fs) = if may_precede e f then e ∷ f ∷ fs else f ∷ insert e fs

-- Events sorted by second and lane. Events of one lane in the same second keep their order.
abbrev pub sorted : List Event → List Event
sorted [] = []
sorted (e ∷ es) = insert e (sorted es)

-- The lists of n lanes, joined and sorted.
abbrev pub merged : (n : ℕ) → (ℕ → List Event) → List Event
merged n list = sorted (flat_map list (range_with_len 0 n))

-- The time line of a work in n lanes.
abbrev pub time_line : Work → (n : ℕ) → List Event
time_line work n = merged n (lane_events work n)
