-- The message of a line.
use Rattle.std.specs.Prelude.{ℕ, List, Bool, if◌then◌else◌, Option, Some, option_map}
use Rattle.serde_json.specs.Data.{Data}
use Rattle.apply_json.specs.Tree.{◌>>=◌, tree_of}
use Rattle.apply_json_tree.specs.Trimmed.{trimmed}
use Rattle.stream_message.specs.Located.{message_text}
use Rattle.stream_message.specs.Members.{type_of}
use Rattle.stream_watch.specs.declared.message.shape.MessageShape.TheVariants.{Message}
use Rattle.stream_watch.specs.Shape.{message_selection}

-- the text of a line's message, which is located first in a log
abbrev pub text_in : (find : Bool) → (line : List ℕ) → Option (List ℕ)
text_in find line = if find then message_text line else Some line

-- the tree, if it has a text `type`: no other tree is a message
abbrev pub if_typed : Data → Option Data
if_typed d = option_map (λ name. d) (type_of d)

-- the whole message of a line
abbrev pub whole_message_of : (find : Bool) → (line : List ℕ) → Option Data
whole_message_of find line = (text_in find line >>= tree_of) >>= if_typed

-- the message of a line, with the members that are read; none if the line has no message
abbrev pub message_of : (find : Bool) → (line : List ℕ) → Option Data
message_of find line = option_map (trimmed message_selection Message) (whole_message_of find line)
