-- When the lines of a stream are due.
use Rattle.std.specs.Prelude.{◌≡◌, ◌/◌, ℕ, max, ℤ, pos, negsuc, ◌-ℤ◌, List, [], ◌∷◌, map, Option, Some, None}

-- the greatest speed
abbrev pub most_speed : ℕ
most_speed = 86400

-- The timestamp of the first message. A line that is no message has no timestamp.
abbrev pub first_of : List (Option ℤ) → Option ℤ
first_of [] = None
first_of (None ∷ timestamps) = first_of timestamps
first_of (Some timestamp ∷ timestamps) = Some timestamp

-- how far a time difference goes forward; 0 where it goes back
abbrev pub forward : ℤ → ℕ
forward (pos n) = n
forward (negsuc n) = 0

-- The time from the first message to the timestamp, divided by the speed, in whole microseconds. It
-- is 0 for an earlier timestamp, and where there is none.
abbrev pub time_of : (speed : ℕ) → (first timestamp : Option ℤ) → ℕ
time_of speed (Some first) (Some timestamp) = forward (timestamp -ℤ first) / speed
time_of speed (Some first) None = 0
time_of speed None timestamp = 0

-- the greatest number of the list; 0 for an empty list
abbrev pub greatest : List ℕ → ℕ
greatest [] = 0
greatest (n ∷ ns) = max n (greatest ns)

-- When the last line is due, in microseconds after the first message: the greatest time of all
-- lines so far.
abbrev pub due_of : (speed : ℕ) → List (Option ℤ) → ℕ
due_of speed timestamps = greatest (map (time_of speed (first_of timestamps)) timestamps)

-- What a pace holds between lines.
pub record Pacing : Type 0 where
  pub speed : ℕ
  pub first : Option ℤ
  pub due : ℕ

-- The pace has read lines with these timestamps, and no other line.
pub record HasPaced (pacing : Pacing) (timestamps : List (Option ℤ)) : Type 0 where
  pub first : pacing.first ≡ first_of timestamps
  pub due : pacing.due ≡ due_of pacing.speed timestamps
