-- Where messages stand in the lines of a log.
use Rattle.std.specs.Prelude.{ℕ, List, [], ◌∷◌, length, Bool, true, false, nat_lt, if◌then◌else◌, is_some, Option, Some, None}
use Rattle.stream_lines.specs.Limits.{max_bytes}
use Rattle.stream_message.specs.Located.{from_mark}

-- the start of a message stands in one of the lines; a line that is too long ends the search
abbrev pub has_mark : List (List ℕ) → Bool
has_mark [] = false
has_mark (line ∷ lines) =
    if nat_lt max_bytes (length line) then false else (if is_some (from_mark line) then true else has_mark lines)

-- a message starts within the line, and not at its front, or the line has none and a later line has
-- one
abbrev pub is_within : (line : List ℕ) → Option (List ℕ) → (later : List (List ℕ)) → Bool
is_within line (Some rest) later = nat_lt (length rest) (length line)
is_within line None later = has_mark later

abbrev pub lies_in_log : (line : List ℕ) → (later : List (List ℕ)) → Bool
lies_in_log line later = is_within line (from_mark line) later
