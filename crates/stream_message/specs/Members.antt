-- The members of messages, by the tree of their line (Machine-Readable UI, "Message Types"). A
-- member with another type counts as missing.
use Rattle.std.specs.Prelude.{ℕ, ℤ, List, [], codes, Option, option_map, unwrap_or}
use Rattle.serde_json.specs.Data.{Data}
use Rattle.serde_json.specs.Find.{as_number, as_u64}
use Rattle.apply_json.specs.Tree.{◌>>=◌, member_of, text_of}
use Rattle.stream_message.specs.declared.kind.Kind.{Kind}
use Rattle.stream_message.specs.Kinds.{kind_named}
use Rattle.stream_message.specs.Timestamp.{instant_of}

-- a text member; empty if it is missing
abbrev pub text_or_empty : (name : List ℕ) → Data → List ℕ
text_or_empty name d = unwrap_or (text_of name d) []

-- a member that is a whole number from 0 to 2^64 - 1
abbrev pub count_of : (name : List ℕ) → Data → Option ℕ
count_of name d = member_of name d >>= as_number >>= as_u64

-- the text `type`; without it, the line is no message
abbrev pub type_of : Data → Option (List ℕ)
type_of d = text_of (codes "type") d

abbrev pub kind_of : Data → Option Kind
kind_of d = option_map kind_named (type_of d)

-- the instant in `@timestamp`
abbrev pub time_of : Data → Option ℤ
time_of d = text_of (codes "@timestamp") d >>= instant_of

-- the timestamp of a message
abbrev pub message_time : Data → Option ℤ
message_time d = type_of d >>= λ name. time_of d

-- the version of Terraform
abbrev pub version_of : Data → Option (List ℕ)
version_of d = text_of (codes "terraform") d

-- the address of the resource that `hook` or `change` is about
abbrev pub resource_address : Data → Option (List ℕ)
resource_address d = member_of (codes "resource") d >>= text_of (codes "addr")

-- the address of the resource that a hook is about
abbrev pub address_of : Data → Option (List ℕ)
address_of d = (member_of (codes "hook") d >>= member_of (codes "resource")) >>= text_of (codes "addr")

abbrev pub hook_text : (name : List ℕ) → Data → Option (List ℕ)
hook_text name d = member_of (codes "hook") d >>= text_of name

abbrev pub hook_count : (name : List ℕ) → Data → Option ℕ
hook_count name d = member_of (codes "hook") d >>= count_of name

abbrev pub changes_text : (name : List ℕ) → Data → Option (List ℕ)
changes_text name d = member_of (codes "changes") d >>= text_of name

abbrev pub changes_count : (name : List ℕ) → Data → Option ℕ
changes_count name d = member_of (codes "changes") d >>= count_of name

abbrev pub diagnostic_text : (name : List ℕ) → Data → Option (List ℕ)
diagnostic_text name d = member_of (codes "diagnostic") d >>= text_of name

-- the file that an object `diagnostic` is about, and the line in it
abbrev pub file_of : Data → Option (List ℕ)
file_of d = member_of (codes "range") d >>= text_of (codes "filename")

abbrev pub line_of : Data → Option ℕ
line_of d = (member_of (codes "range") d >>= member_of (codes "start")) >>= count_of (codes "line")

abbrev pub diagnostic_file : Data → Option (List ℕ)
diagnostic_file d = member_of (codes "diagnostic") d >>= file_of

abbrev pub diagnostic_line : Data → Option ℕ
diagnostic_line d = member_of (codes "diagnostic") d >>= line_of
