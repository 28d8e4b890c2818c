-- Times in lanes: a second, and a round within that second.
use Rattle.std.specs.Prelude.{◌≡◌, ◌≤◌, ℕ, ◌+◌, ◌==◌, ◌&&◌, ◌||◌, List, [], ◌∷◌, Bool, nat_lt, not, if◌then◌else◌}
use Rattle.std.specs.List.{list_all}
use Rattle.stream_record_waits.specs.declared.lane_time.LaneTime.{LaneTime}

-- The first of all times.
abbrev pub first_lane_time : LaneTime
first_lane_time = record { second = 0; round = 0 }

-- The order of times: by the second, then by the round.
abbrev pub is_earlier : LaneTime → LaneTime → Bool
is_earlier a b = nat_lt a.second b.second || (a.second == b.second && nat_lt a.round b.round)

-- The later of two times.
abbrev pub later_of : LaneTime → LaneTime → LaneTime
later_of a b = if is_earlier a b then b else a

-- The time so many seconds later. After 0 seconds it is the same time, otherwise the first round of
-- its second.
abbrev pub later_by : (seconds : ℕ) → LaneTime → LaneTime
later_by seconds m = if seconds == 0 then m else record { second = m.second + seconds; round = 0 }

-- The next round in the same second.
abbrev pub next_round : LaneTime → LaneTime
next_round m = record { second = m.second; round = m.round + 1 }

-- The position of the earliest time; of several positions the first.
abbrev pub first_earliest : List LaneTime → ℕ
first_earliest [] = 0
first_earliest (m ∷ ms) = if list_all (λ other. not (is_earlier other m)) ms then 0 else first_earliest ms + 1

-- The first time is no later than the second.
abbrev pub IsNoLater : LaneTime → LaneTime → Type 0
IsNoLater a b = (a.second ≤ b.second) × (a.second ≡ b.second → a.round ≤ b.round)
