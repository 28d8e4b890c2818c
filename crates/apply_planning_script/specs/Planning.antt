-- What a script says of a planning, or its first fault (the script's own format).
use Rattle.std.specs.Prelude.{ℕ, List, [], ◌∷◌, ◌++◌, codes, fold, length, nat_le, nat_lt, Bool, false, ◌||◌, if◌then◌else◌, is_some, slice_get, Option, Some, None, option_map, Result, Ok, Err}
use Rattle.std.specs.List.{list_any}
use Rattle.std.specs.Option.{option_and_then, option_map_or, option_or}
use Rattle.serde_json.specs.Data.{Data}
use Rattle.apply_address.specs.Modes.{mode_of}
use Rattle.apply_address.specs.Reading.{parts_in}
use Rattle.apply_json.specs.Tree.{items_or_empty, list_of, member_of}
use Rattle.apply_json.specs.Verbatim.{mixed_tree_of}
use Rattle.apply_model.specs.declared.plan.mode.Mode.{Mode}
use Rattle.apply_model.specs.declared.plan.mode.Mode.TheVariants.{DataSource, Managed}
use Rattle.apply_plan.specs.Bytes.{max_bytes}
use Rattle.apply_plan.specs.Results.{◌>>=◌, or_refuse, unless_refused}
use Rattle.apply_plan.specs.Script.Entry.{Failure, is_verbatim_name}
use Rattle.apply_plan.specs.declared.script.planning_error.PlanningError.{PlanningError}
use Rattle.apply_plan.specs.declared.script.planning_error.PlanningError.TheVariants.{TooMany, Malformed, NoObject, Misfits, Repeated}
use Rattle.apply_plan.specs.declared.script.script_error.ScriptError.{ScriptError}
use Rattle.apply_plan.specs.declared.script.script_error.ScriptError.TheVariants.{BadShape, NotJson, Planning, TooLarge}
use Rattle.apply_prior.specs.declared.prior_object.PriorObject.{PriorObject}
use Rattle.apply_planning_script.specs.Items.{Item, item_of, object_of_item}
use Rattle.apply_planning_script.specs.Objects.{ObjectName, is_among, is_same_name, number_in, object_of}

-- the most items
abbrev pub max_items : ℕ
max_items = 9999

-- ---- the items

-- the items up to the first that is none, and why that one is none
pub record ReadItems : Type 0 where
  pub items : List Item
  pub fault : Option PlanningError

abbrev pub nothing_read : ReadItems
nothing_read = record { items = []; fault = None }

-- after these items: one item more, or the fault
abbrev pub with_item : List Item → Option Item → ReadItems
with_item items None = record { items = items; fault = Some (Malformed (length items)) }
with_item items (Some item) = record { items = items ++ item ∷ []; fault = None }

abbrev pub and_item : List Item → Data → ReadItems
and_item items d =
    if nat_le max_items (length items) then record { items = items; fault = Some TooMany }
    else with_item items (item_of d)

-- one element more; after a fault the others do not count
abbrev pub and_element_by : Option PlanningError → List Item → Data → ReadItems
and_element_by None items d = and_item items d
and_element_by (Some fault) items d = record { items = items; fault = Some fault }

unfoldable pub and_element : ReadItems → Data → ReadItems
and_element read d = and_element_by read.fault read.items d

-- the items of these elements
abbrev pub items_in : List Data → ReadItems
items_in elements = fold and_element nothing_read elements

-- ---- their objects

-- the object of a prior object
abbrev pub object_of_prior : PriorObject → ObjectName
object_of_prior prior = object_of prior.object

-- the plan knows the object of the item
abbrev pub is_known : List PriorObject → ObjectName → Bool
is_known objects object = is_among object_of_prior objects object

-- the mode of an object that the plan knows
abbrev pub known_mode : List PriorObject → ObjectName → Option Mode
known_mode objects object =
    option_map (λ prior. prior.object.mode) (option_and_then (slice_get objects) (number_in object_of_prior objects object))

-- the mode of a resource with that address; none where the text is no address of a resource
abbrev pub mode_at : List ℕ → Option Mode
mode_at address = option_map (λ parts. mode_of parts.resource) (parts_in address)

-- the mode of the item's object; none where it has none
abbrev pub mode_of_object : (known : Option Mode) → Item → Option Mode
mode_of_object known item = option_or known (mode_at item.address)

-- the failure is only a warning
abbrev pub only_warns : Option Failure → Bool
only_warns failure = option_map_or (λ failure. failure.only_warns) failure false

-- the item says what its object cannot do: a data source is never deposed and never vanishes, and a
-- refresh has no failure that only warns
abbrev pub misfits : Item → Mode → Bool
misfits item DataSource = item.is_gone || is_some item.deposed
misfits item Managed = only_warns item.failure

-- an earlier item is about the same object
abbrev pub is_repeated : List Item → Item → Bool
is_repeated earlier item = list_any (λ one. is_same_name (object_of_item one) (object_of_item item)) earlier

-- the fault of an item with an object of this mode, after earlier items
abbrev pub fault_by_mode : List Item → Item → Mode → Option PlanningError
fault_by_mode earlier item mode =
    if misfits item mode then Some (Misfits (length earlier))
    else if is_repeated earlier item then Some (Repeated (length earlier))
    else None

abbrev pub fault_with : List Item → Item → Option Mode → Option PlanningError
fault_with earlier item None = Some (NoObject (length earlier))
fault_with earlier item (Some mode) = fault_by_mode earlier item mode

-- the fault of an item after earlier items
abbrev pub fault_of : List PriorObject → List Item → Item → Option PlanningError
fault_of objects earlier item =
    fault_with earlier item (mode_of_object (known_mode objects (object_of_item item)) item)

-- the first fault of these items, after earlier ones
unfoldable pub first_fault : List PriorObject → List Item → List Item → Option PlanningError
first_fault objects earlier [] = None
first_fault objects earlier (item ∷ items) =
    option_or (fault_of objects earlier item) (first_fault objects (earlier ++ item ∷ []) items)

-- ---- the script

-- the items that were read, or the first fault; the item that is none comes after all others
abbrev pub checked : List PriorObject → ReadItems → Result (List Item) ScriptError
checked objects read =
    unless_refused (option_map Planning (option_or (first_fault objects [] read.items) read.fault)) read.items

-- the items of an optional array
abbrev pub said_in_tree : Data → Result ReadItems ScriptError
said_in_tree d =
    or_refuse (BadShape None) (items_or_empty (member_of (codes "planning") d)) >>= λ elements.
    Ok (items_in (list_of elements))

-- the items in the bytes of a script
abbrev pub said_in : List ℕ → Result ReadItems ScriptError
said_in bytes =
    if nat_lt max_bytes (length bytes) then Err TooLarge
    else (or_refuse NotJson (mixed_tree_of is_verbatim_name bytes) >>= said_in_tree)

-- the items of a script that may be absent
abbrev pub said_in_option : Option (List ℕ) → Result ReadItems ScriptError
said_in_option None = Ok nothing_read
said_in_option (Some bytes) = said_in bytes

-- what a script says of the planning of these objects, or its first fault
abbrev pub said_of : List PriorObject → Option (List ℕ) → Result (List Item) ScriptError
said_of objects script = said_in_option script >>= checked objects
