-- Where a message stands in a line of a log.
use Rattle.std.specs.Prelude.{ℕ, ◌==◌, ◌++◌, List, [], ◌∷◌, codes, take, Bool, false, not, if◌then◌else◌, Option, Some, None, is_some}
use Rattle.std.specs.Option.{option_and_then, option_map_or}
use Rattle.std.specs.Str.{bytes_eq}
use Rattle.apply_json.specs.Tree.{tree_of}
use Rattle.stream_message.specs.Members.{type_of}

-- the start of each message of Terraform
abbrev pub mark : List ℕ
mark = codes "{\"@level\""

-- the text from the first start of a message on
abbrev pub from_mark : List ℕ → Option (List ℕ)
from_mark [] = None
from_mark (byte ∷ bytes) = if bytes_eq (take 9 (byte ∷ bytes)) mark then Some (byte ∷ bytes) else from_mark bytes

-- the byte put in front of the text; without a text, a closing brace starts one
abbrev pub onto : ℕ → Option (List ℕ) → Option (List ℕ)
onto byte (Some bytes) = Some (byte ∷ bytes)
onto byte None = if byte == 125 then Some (byte ∷ []) else None

-- the text up to its last closing brace
abbrev pub through_brace : List ℕ → Option (List ℕ)
through_brace [] = None
through_brace (byte ∷ bytes) = onto byte (through_brace bytes)

-- the text of the message in a line of a log
abbrev pub message_text : List ℕ → Option (List ℕ)
message_text line = option_and_then through_brace (from_mark line)

-- an object without a text `type`, which another program wrote
abbrev pub is_of_another_program : List ℕ → Bool
is_of_another_program text = option_map_or (λ d. not (is_some (type_of d))) (tree_of text) false

-- The message in a line of a log. A text that is no JSON may be the rest of a message, and counts.
abbrev pub found_message : List ℕ → Option (List ℕ)
found_message line =
    option_and_then (λ text. if is_of_another_program text then None else Some text) (message_text line)

-- the message of a line of a log, and a line feed; nothing where the line has none
abbrev pub found_line : List ℕ → List ℕ
found_line line = option_map_or (λ message. message ++ 10 ∷ []) (found_message line) []
