-- What is kept of an input: the messages that are found in its lines.
use Rattle.std.specs.Prelude.{◌++◌, List, [], ◌∷◌, ℕ, length, nat_lt, if◌then◌else◌}
use Rattle.stream_lines.specs.Limits.{max_bytes}
use Rattle.stream_message.specs.Located.{found_line}

-- the messages of the lines, each on a line; a line that is too long ends them
abbrev pub kept_lines : List (List ℕ) → List ℕ
kept_lines [] = []
kept_lines (line ∷ lines) = if nat_lt max_bytes (length line) then [] else found_line line ++ kept_lines lines
