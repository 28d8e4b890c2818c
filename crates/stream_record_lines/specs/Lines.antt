-- What a line states.
use Rattle.std.specs.Prelude.{ℕ, List, Bool, ◌&&◌, true, false, not, if◌then◌else◌, Option, is_some}
use Rattle.std.specs.Option.{option_map_or}
use Rattle.apply_json.specs.Tree.{◌>>=◌, tree_of}
use Rattle.stream_message.specs.Located.{from_mark}
use Rattle.stream_message.specs.Runs.{text_in}
use Rattle.stream_record_lines.specs.declared.stated_message.StatedMessage.{StatedMessage}
use Rattle.stream_record_lines.specs.declared.stated_line.StatedLine.{StatedLine}
use Rattle.stream_record_lines.specs.declared.stated_line.StatedLine.TheVariants.{Foreign, NoMessage, Message}
use Rattle.stream_record_lines.specs.Messages.{message_of}

-- the message of a text
abbrev pub message_in : (text : List ℕ) → Option StatedMessage
message_in text = tree_of text >>= message_of text

-- A line without a message. In a log, a line without the start of one is of another program.
abbrev pub without_message : (find : Bool) → (line : List ℕ) → StatedLine
without_message find line = if find && not (is_some (from_mark line)) then Foreign else NoMessage

-- what a line states; in a log its message is located first
abbrev pub stated_line : (find : Bool) → (line : List ℕ) → StatedLine
stated_line find line = option_map_or Message (text_in find line >>= message_in) (without_message find line)

-- the line has a message
abbrev pub is_message : StatedLine → Bool
is_message Foreign = false
is_message NoMessage = false
is_message (Message message) = true
