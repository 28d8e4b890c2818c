-- Objects as elements of a plan's arrays name them.
use Rattle.std.specs.Prelude.{ℕ, List, [], codes, ◌&&◌, if◌then◌else◌, Option, Some, None}
use Rattle.std.specs.Option.{option_map_or}
use Rattle.serde_json.specs.Data.{Data, Items, no_items, item}
use Rattle.serde_json.specs.Find.{as_array}
use Rattle.apply_json.specs.Tree.{◌>>=◌, is_word, list_of, member_of, non_empty_text_of, text_of}
use Rattle.apply_model.specs.declared.plan.action.Action.{Action}
use Rattle.apply_model.specs.declared.plan.action.Action.TheVariants as action
use Rattle.apply_model.specs.declared.plan.key.Key.{Key}
use Rattle.apply_model.specs.declared.plan.mode.Mode.{Mode}
use Rattle.apply_model.specs.Plan.Address.{relative_address}
use Rattle.apply_model.specs.Plan.ResourceChange.{ResourceChange}
use Rattle.apply_plan.specs.Plan.Element.{hides_id, key_of, mode_named}

-- the array `name`
abbrev pub array_at : List ℕ → Data → Option Items
array_at name d = member_of name d >>= as_array

-- its items; none if there is no such array
abbrev pub items_at : List ℕ → Data → List Data
items_at name d = option_map_or list_of (array_at name d) []

-- the address of an object and its parts
pub record Names : Type 0 where
  pub address : List ℕ
  pub mode : Mode
  pub kind_name : List ℕ
  pub name : List ℕ
  pub key : Key

-- the names in an element; none if one of these members is invalid or missing
abbrev pub names_of : Data → Option Names
names_of d = do
  address ← text_of (codes "address") d
  word ← text_of (codes "mode") d
  mode ← mode_named word
  kind_name ← non_empty_text_of (codes "type") d
  name ← non_empty_text_of (codes "name") d
  key ← key_of (member_of (codes "index") d)
  Some (record { address = address; mode = mode; kind_name = kind_name; name = name; key = key })

-- the id in `values`, unless `sensitive` hides it
abbrev pub id_of : (values sensitive : Option Data) → Option (List ℕ)
id_of values sensitive = if hides_id sensitive then None else (values >>= λ d. non_empty_text_of (codes "id") d)

-- the change, if its address is that of its module, a dot and more text
abbrev pub in_its_module : ResourceChange → Option ResourceChange
in_its_module change = relative_address change.module_address change.address >>= λ relative. Some change

-- the action of a list with one word
abbrev pub action_alone : Data → Option Action
action_alone word =
    if is_word (codes "no-op") word then Some action.NoOp
    else if is_word (codes "create") word then Some action.Create
    else if is_word (codes "read") word then Some action.Read
    else if is_word (codes "update") word then Some action.Update
    else if is_word (codes "delete") word then Some action.Delete
    else if is_word (codes "forget") word then Some action.Forget
    else None

-- the action of a list with two words: a replacement
abbrev pub action_together : Data → Data → Option Action
action_together first second =
    if is_word (codes "delete") first && is_word (codes "create") second then Some action.DeleteThenCreate
    else if is_word (codes "create") first && is_word (codes "delete") second then Some action.CreateThenDelete
    else None

-- the action of a list; none if it is not one of the eight valid lists
abbrev pub action_listed : Items → Option Action
action_listed no_items = None
action_listed (item word no_items) = action_alone word
action_listed (item first (item second no_items)) = action_together first second
action_listed (item first (item second (item third others))) = None

-- the action by the member `actions`
abbrev pub action_of : Data → Option Action
action_of d = array_at (codes "actions") d >>= action_listed
