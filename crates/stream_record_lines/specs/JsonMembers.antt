-- Members of objects as JSON texts: without blanks, with numbers as they were written.
use Rattle.std.specs.Prelude.{◌≡◌, ℕ, ◌==◌, List, [], ◌∷◌, Bool, ◌&&◌, true, false, if◌then◌else◌, Option, Some, None, is_some, option_map, string_bytes}
use Rattle.json.specs.Json.{value}
use Rattle.json.specs.Lex.{tokens}
use Rattle.serde_json.specs.Data.{Members}
use Rattle.serde_json.specs.Find.{as_str, get, get_member}
use Rattle.serde_json.specs.Read.{converted, of_json}
use Rattle.apply_json.specs.Tree.{◌>>=◌}
use Rattle.apply_json.specs.Verbatim.{mixed_tree_of}
use Rattle.stream_record_lines.specs.declared.json_member.JsonMember.{JsonMember}

-- each member is read as JSON text
abbrev pub each_member : (name : List ℕ) → Bool
each_member name = true

-- the JSON text of the member `name` of a text; none if the text is no object or lacks the member
abbrev pub member_json : (name text : List ℕ) → Option (List ℕ)
member_json name text = (mixed_tree_of each_member text >>= get name) >>= as_str

-- the JSON text is that of an object
abbrev pub is_object : (json : List ℕ) → Bool
is_object [] = false
is_object (byte ∷ bytes) = byte == 123

-- how deep a range or a snippet may nest, so that a script can repeat it everywhere
abbrev pub max_nesting : ℕ
max_nesting = 119

-- the JSON text nests no deeper
abbrev pub is_shallow : (json : List ℕ) → Bool
is_shallow json = is_some (converted of_json (value max_nesting (tokens json)))

abbrev pub if_object : (json : List ℕ) → Option (List ℕ)
if_object json = if is_object json && is_shallow json then Some json else None

-- ---- for private clauses

-- the slot holds the JSON text of the member of its name
pub record HoldsJson (name : List ℕ) (slot : JsonMember) (ms : Members) : Type 0 where
  pub named : slot.name.now ≡ name
  pub json : option_map string_bytes slot.json ≡ (get_member name ms >>= as_str)
