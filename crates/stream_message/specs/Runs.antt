-- Where a run of Terraform begins.
use Rattle.std.specs.Prelude.{ℕ, List, Bool, true, false, if◌then◌else◌, Option, Some, None}
use Rattle.std.specs.Option.{option_map_or}
use Rattle.apply_json.specs.Tree.{tree_of}
use Rattle.stream_message.specs.Located.{message_text}
use Rattle.stream_message.specs.Members.{kind_of}
use Rattle.stream_message.specs.declared.kind.Kind.{Kind}
use Rattle.stream_message.specs.declared.kind.Kind.TheVariants as kind

-- the text in which the message of a line is read; in a log the message is located
abbrev pub text_in : (find : Bool) → List ℕ → Option (List ℕ)
text_in find line = if find then message_text line else Some line

abbrev pub is_version : Option Kind → Bool
is_version (Some kind.Version) = true
is_version _ = false

-- the text is a `version` message
abbrev pub is_version_text : List ℕ → Bool
is_version_text text = option_map_or (λ d. is_version (kind_of d)) (tree_of text) false

-- a run begins with the line
abbrev pub begins_run : (find : Bool) → List ℕ → Bool
begins_run find line = option_map_or is_version_text (text_in find line) false
