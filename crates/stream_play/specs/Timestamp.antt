-- The timestamp of a message.
use Rattle.std.specs.Prelude.{ℕ, ℤ, List, Option}
use Rattle.apply_json.specs.Tree.{◌>>=◌, tree_of}
use Rattle.stream_message.specs.Members.{message_time}

-- the timestamp of a line; none where the line is no message, or states none
abbrev pub timestamp_of : List ℕ → Option ℤ
timestamp_of line = tree_of line >>= message_time
