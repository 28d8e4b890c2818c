-- What the slots of outputs hold, for private clauses.
use Rattle.std.specs.Prelude.{◌≡◌, ℕ, List, codes, map, Bool, true, false, option_map, String, string_bytes}
use Rattle.std.specs.declared.alloc.Global.{Global}
use Rattle.serde_json.specs.Data.{Members}
use Rattle.serde_json.specs.Find.{as_str, get_member}
use Rattle.apply_json.specs.ShallowView.{ShallowView, absent, truth, number, text, an_array, an_object, shallow_of, shallow_view}
use Rattle.apply_json.specs.Tree.{◌>>=◌}
use Rattle.stream_record_lines.specs.declared.outputs.output_slots.OutputSlots.{OutputSlots}
use Rattle.stream_record_lines.specs.declared.outputs.statement.Statement.{Statement}
use Rattle.stream_record_lines.specs.Outputs.{StatedOutput}

pub record HoldsOutput (slots : OutputSlots) (ms : Members) : Type 0 where
  pub action : shallow_view slots.action ≡ shallow_of (get_member (codes "action") ms)
  pub sensitive : shallow_view slots.sensitive ≡ shallow_of (get_member (codes "sensitive") ms)
  pub type_json : option_map string_bytes slots.type_json ≡ (get_member (codes "type") ms >>= as_str)
  pub value_json : option_map string_bytes slots.value_json ≡ (get_member (codes "value") ms >>= as_str)

abbrev pub is_present : ShallowView → Bool
is_present absent = false
is_present (truth b) = true
is_present (number n) = true
is_present (text s) = true
is_present an_array = true
is_present an_object = true

abbrev pub is_true_view : ShallowView → Bool
is_true_view absent = false
is_true_view (truth b) = b
is_true_view (number n) = false
is_true_view (text s) = false
is_true_view an_array = false
is_true_view an_object = false

-- ---- outputs by name

-- the output of that name
abbrev pub statement_view : (name : List ℕ) → Statement → StatedOutput
statement_view name statement = record {
  name = name;
  has_action = statement.has_action;
  is_sensitive = statement.is_sensitive;
  type_json = option_map string_bytes statement.type_json;
  value_json = option_map string_bytes statement.value_json;
}

abbrev pub entry_view : String Global × Statement → StatedOutput
entry_view entry = statement_view (string_bytes entry.0) entry.1

abbrev pub entries_view : List (String Global × Statement) → List StatedOutput
entries_view entries = map entry_view entries
