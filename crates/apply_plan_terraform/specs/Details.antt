-- The details of an element of `resource_changes`, for Terraform's form only (JSON Output Format,
-- "Plan Representation"). A member of the wrong kind counts as absent.
use Rattle.std.specs.Prelude.{ℕ, List, codes, Bool, true, false, ◌||◌, if◌then◌else◌, Option, Some, None, option_map}
use Rattle.std.specs.Option.{option_map_or}
use Rattle.std.specs.Str.{bytes_eq}
use Rattle.apply_address.specs.Parts.{Parts}
use Rattle.apply_address.specs.Reading.{parts_in}
use Rattle.serde_json.specs.Data.{Data, null, boolean, number, string, array, object, Items, no_items, item}
use Rattle.serde_json.specs.Find.{as_array, as_bool}
use Rattle.apply_json.specs.Tree.{◌>>=◌, is_word, member_of, non_empty_text_of}
use Rattle.apply_model.specs.declared.details.change_details.ChangeDetails.{ChangeDetails}
use Rattle.apply_model.specs.declared.details.importing.Importing.{Importing}
use Rattle.apply_model.specs.declared.details.previous_resource.PreviousResource.{PreviousResource}
use Rattle.apply_model.specs.declared.details.reason.Reason.{Reason}
use Rattle.apply_model.specs.declared.details.reason.Reason.TheVariants.{CannotUpdate, Tainted, Requested, ReplaceTriggeredBy, DeleteBecauseNoResourceConfig, DeleteBecauseWrongRepetition, DeleteBecauseCountIndex, DeleteBecauseEachKey, DeleteBecauseNoModule, DeleteBecauseNoMoveTarget, ReadBecauseConfigUnknown, ReadBecauseDependencyPending, ReadBecauseCheckNested, Unknown}

-- the reason to read that a word stands for
abbrev pub read_reason : List ℕ → Reason
read_reason word =
    if bytes_eq word (codes "read_because_config_unknown") then ReadBecauseConfigUnknown
    else if bytes_eq word (codes "read_because_dependency_pending") then ReadBecauseDependencyPending
    else if bytes_eq word (codes "read_because_check_nested") then ReadBecauseCheckNested
    else Unknown

-- the reason to delete or to read that a word stands for
abbrev pub delete_reason : List ℕ → Reason
delete_reason word =
    if bytes_eq word (codes "delete_because_no_resource_config") then DeleteBecauseNoResourceConfig
    else if bytes_eq word (codes "delete_because_wrong_repetition") then DeleteBecauseWrongRepetition
    else if bytes_eq word (codes "delete_because_count_index") then DeleteBecauseCountIndex
    else if bytes_eq word (codes "delete_because_each_key") then DeleteBecauseEachKey
    else if bytes_eq word (codes "delete_because_no_module") then DeleteBecauseNoModule
    else if bytes_eq word (codes "delete_because_no_move_target") then DeleteBecauseNoMoveTarget
    else read_reason word

-- the reason that a word of a plan stands for
abbrev pub reason_named : List ℕ → Reason
reason_named word =
    if bytes_eq word (codes "replace_because_cannot_update") then CannotUpdate
    else if bytes_eq word (codes "replace_because_tainted") then Tainted
    else if bytes_eq word (codes "replace_by_request") then Requested
    else if bytes_eq word (codes "replace_by_triggers") then ReplaceTriggeredBy
    else delete_reason word

-- the value is the boolean `wanted`
abbrev pub is_flag : Bool → Option Data → Bool
is_flag wanted None = false
is_flag wanted (Some d) = option_map_or (λ flag. if wanted then flag else (if flag then false else true)) (as_bool d) false

-- `after_sensitive` marks the id as sensitive: it is `true`, or an object whose `id` is `true`
abbrev pub hides_id : Option Data → Bool
hides_id None = false
hides_id (Some sensitive) = is_flag true (Some sensitive) || is_flag true (member_of (codes "id") sensitive)

abbrev pub planned_id_in : (change : Option Data) → Option (List ℕ)
planned_id_in None = None
planned_id_in (Some change) =
    if hides_id (member_of (codes "after_sensitive") change) then None
    else (member_of (codes "after") change >>= λ after. non_empty_text_of (codes "id") after)

-- the value if it is an object; nothing else
abbrev pub unless_other : Data → Option Data
unless_other null = None
unless_other (boolean b) = None
unless_other (number n) = None
unless_other (string s) = None
unless_other (array ds) = None
unless_other (object ms) = Some (object ms)

-- the object that describes an import
abbrev pub imported_in : (change : Option Data) → Option Data
imported_in None = None
imported_in (Some change) = member_of (codes "importing") change >>= unless_other

abbrev pub importing_of : (imported : Option Data) → Option Importing
importing_of None = None
importing_of (Some d) = Some (record { id = non_empty_text_of (codes "id") d })

-- the configuration that Terraform generated for an imported object
abbrev pub config_in : (change : Option Data) → Option (List ℕ)
config_in None = None
config_in (Some change) = non_empty_text_of (codes "generated_config") change

abbrev pub actions_in : (change : Option Data) → Option Items
actions_in None = None
actions_in (Some change) = member_of (codes "actions") change >>= as_array

-- the list of actions is `["forget"]`
abbrev pub is_forgetting : Items → Bool
is_forgetting no_items = false
is_forgetting (item action no_items) = is_word (codes "forget") action
is_forgetting (item first (item second others)) = false

abbrev pub forgets_in : (change : Option Data) → Bool
forgets_in change = option_map_or is_forgetting (actions_in change) false

-- the reason for the change
abbrev pub reason_of : Data → Option Reason
reason_of d = option_map reason_named (non_empty_text_of (codes "action_reason") d)

-- the resource that the object was before its move; nothing where the text is no address
abbrev pub with_parts : (address : List ℕ) → Parts → PreviousResource
with_parts address parts = record {
  address = address;
  module_address = parts.module_address;
  resource = parts.resource;
  kind_name = parts.kind_name;
  name = parts.name;
  key = parts.key;
}

abbrev pub previous_at : (address : List ℕ) → Option PreviousResource
previous_at address = option_map (with_parts address) (parts_in address)

abbrev pub previous_of : Data → Option PreviousResource
previous_of d = non_empty_text_of (codes "previous_address") d >>= previous_at

-- all details of an element
abbrev pub element_details : Data → ChangeDetails
element_details d = record {
  forgets = forgets_in (member_of (codes "change") d);
  reason = reason_of d;
  importing = importing_of (imported_in (member_of (codes "change") d));
  generated_config = config_in (member_of (codes "change") d);
  planned_id = planned_id_in (member_of (codes "change") d);
  previous = previous_of d;
}
