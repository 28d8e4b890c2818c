-- How many runs begin in some lines.
use Rattle.std.specs.Prelude.{ℕ, ◌+◌, List, [], ◌∷◌, length, Bool, nat_lt, if◌then◌else◌}
use Rattle.stream_lines.specs.Limits.{max_bytes}
use Rattle.stream_message.specs.Runs.{begins_run}

-- the runs that begin in these lines; a line that is too long ends the count
abbrev pub runs_in : (find : Bool) → List (List ℕ) → ℕ
runs_in find [] = 0
runs_in find (line ∷ lines) =
    if nat_lt max_bytes (length line) then 0
    else (if begins_run find line then runs_in find lines + 1 else runs_in find lines)
