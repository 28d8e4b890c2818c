-- An element of `resource_changes`, and the rule of each of its members.
use Rattle.std.specs.Prelude.{ℕ, List, [], codes, Bool, false, ◌||◌, if◌then◌else◌, Option, Some, None, option_map}
use Rattle.std.specs.Option.{option_map_or}
use Rattle.std.specs.Str.{bytes_eq}
use Rattle.serde_json.specs.Data.{Data, null, boolean, number, string, array, object, Items}
use Rattle.serde_json.specs.Find.{as_array, as_bool, as_i64}
use Rattle.apply_model.specs.declared.plan.key.Key.{Key}
use Rattle.apply_model.specs.declared.plan.key.Key.TheVariants as key
use Rattle.apply_model.specs.declared.plan.mode.Mode.{Mode}
use Rattle.apply_model.specs.declared.plan.mode.Mode.TheVariants.{Managed, DataSource}
use Rattle.apply_json.specs.Tree.{◌>>=◌, unless_empty, member_of, text_of, non_empty_text_of, text_or}

pub record Element : Type 0 where
  pub address : List ℕ
  pub mode : Mode
  pub kind_name : List ℕ
  pub name : List ℕ
  pub module_address : List ℕ
  pub key : Key
  pub deposed : Option (List ℕ)
  pub actions : Items
  pub prior_id : Option (List ℕ)

abbrev pub mode_named : List ℕ → Option Mode
mode_named word =
    if bytes_eq word (codes "managed") then Some Managed
    else if bytes_eq word (codes "data") then Some DataSource
    else None

-- the instance key by `index`: a text, or a whole number that fits 64 bits with a sign
abbrev pub key_of : Option Data → Option Key
key_of None = Some key.None
key_of (Some null) = None
key_of (Some (boolean b)) = None
key_of (Some (number n)) = option_map key.Number (as_i64 n)
key_of (Some (string s)) = Some (key.Name s)
key_of (Some (array ds)) = None
key_of (Some (object ms)) = None

-- `before_sensitive` hides the id if it is `true`, or an object whose `id` is `true`
abbrev pub is_true : Option Data → Bool
is_true None = false
is_true (Some d) = option_map_or (λ b. b) (as_bool d) false

abbrev pub hides_id : Option Data → Bool
hides_id None = false
hides_id (Some sensitive) = is_true (Some sensitive) || is_true (member_of (codes "id") sensitive)

-- the id before the change; none if it is no text, empty or hidden
abbrev pub prior_id_of : Data → Option (List ℕ)
prior_id_of change =
    if hides_id (member_of (codes "before_sensitive") change) then None
    else (member_of (codes "before") change >>= λ before. non_empty_text_of (codes "id") before)

-- what the member `change` states: the actions, and the id before the change
abbrev pub planned_change_of : Data → Option (Items × Option (List ℕ))
planned_change_of d = do
  change ← member_of (codes "change") d
  list ← member_of (codes "actions") change
  actions ← as_array list
  Some (actions, prior_id_of change)

-- the element; none if one of its members is invalid or missing
unfoldable pub element_of : Data → Option Element
element_of d = do
  address ← text_of (codes "address") d
  word ← text_of (codes "mode") d
  mode ← mode_named word
  kind_name ← non_empty_text_of (codes "type") d
  name ← non_empty_text_of (codes "name") d
  module_address ← text_or [] (member_of (codes "module_address") d)
  key ← key_of (member_of (codes "index") d)
  deposed ← text_or [] (member_of (codes "deposed") d)
  planned ← planned_change_of d
  Some (record {
    address = address;
    mode = mode;
    kind_name = kind_name;
    name = name;
    module_address = module_address;
    key = key;
    deposed = unless_empty deposed;
    actions = planned.0;
    prior_id = planned.1;
  })
