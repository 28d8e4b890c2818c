-- Times in lanes: a second, and a round within that second.
use Rattle.apply_events.specs.declared.lanes.lane_time.LaneTime.{LaneTime}
use Rattle.std.specs.Prelude.{◌≡◌, ◌≤◌, ℕ, ◌+◌, ◌==◌, ◌&&◌, ◌||◌, Bool, nat_lt, if◌then◌else◌}

-- The first of all times.
abbrev pub first_lane_time : LaneTime
first_lane_time = record { second = 0; round = 0 }

-- The order of times: by the second, then by the round.
abbrev pub is_earlier : LaneTime → LaneTime → Bool
is_earlier a b = nat_lt a.second b.second || (a.second == b.second && nat_lt a.round b.round)

-- The first time is no later than the second.
abbrev pub IsNoLater : LaneTime → LaneTime → Type 0
IsNoLater a b = (a.second ≤ b.second) × (a.second ≡ b.second → a.round ≤ b.round)

-- The later of two times.
abbrev pub later_of : LaneTime → LaneTime → LaneTime
later_of a b = if is_earlier a b then b else a

-- The time so many seconds later. After 0 seconds it is the same time, otherwise the first round of
-- its second.
abbrev pub later_by : (seconds : ℕ) → LaneTime → LaneTime
later_by seconds m = if seconds == 0 then m else record { second = m.second + seconds; round = 0 }

-- The next round in the same second.
abbrev pub next_round : LaneTime → LaneTime
next_round m = record { second = m.second; round = m.round + 1 }
