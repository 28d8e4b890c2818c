-- The objects that a stream tells of while a plan is made, by the plan and by what a script says.
use Rattle.std.specs.Prelude.{ℕ, List, [], ◌∷◌, ◌++◌, Bool, not, ◌||◌, if◌then◌else◌, slice_get, Option, Some, None, option_map, Result, Ok}
use Rattle.std.specs.List.{flat_map}
use Rattle.std.specs.Option.{option_and_then, option_map_or, option_or}
use Rattle.apply_address.specs.Modes.{mode_of}
use Rattle.apply_address.specs.Parts.{Parts}
use Rattle.apply_address.specs.Reading.{parts_in}
use Rattle.apply_model.specs.declared.details.note.Note.{Note}
use Rattle.apply_model.specs.declared.details.note.Severity.{Severity}
use Rattle.apply_model.specs.declared.details.note.Severity.TheVariants.{Error, Warning}
use Rattle.apply_model.specs.declared.plan.mode.Mode.{Mode}
use Rattle.apply_model.specs.declared.plan.mode.Mode.TheVariants.{DataSource, Managed}
use Rattle.apply_model.specs.Plan.ResourceChange.{ResourceChange}
use Rattle.apply_plan.specs.Results.{◌>>=◌}
use Rattle.apply_plan.specs.Script.Entry.{Failure}
use Rattle.apply_plan.specs.declared.script.script_error.ScriptError.{ScriptError}
use Rattle.apply_planning.specs.declared.told.Told.{Told}
use Rattle.apply_prior.specs.declared.prior_object.PriorObject.{PriorObject}
use Rattle.apply_planning_script.specs.declared.rules.PlanningRules.{PlanningRules}
use Rattle.apply_planning_script.specs.Items.{Item, object_of_item}
use Rattle.apply_planning_script.specs.Names.{name_of}
use Rattle.apply_planning_script.specs.Objects.{ObjectName, number_in, object_of}
use Rattle.apply_planning_script.specs.Planning.{is_known, said_of}
use Rattle.apply_planning_script.specs.Rules.{PlannedObjects, is_expected}

-- ---- an object and its item

-- an object, the names that it depends on, and the id that it had before it was refreshed
pub record Object : Type 0 where
  pub object : ResourceChange
  pub depends_on : List (List ℕ)
  pub id_before : Option (List ℕ)

abbrev pub object_view : PriorObject → Object
object_view prior = record { object = prior.object; depends_on = prior.depends_on.items; id_before = prior.id_before }

-- an object that the plan does not know, by the parts of its address
abbrev pub unknown_with : (address : List ℕ) → (deposed : Option (List ℕ)) → Parts → Object
unknown_with address deposed parts = record {
  object = record {
    address = address;
    module_address = parts.module_address;
    mode = mode_of parts.resource;
    kind_name = parts.kind_name;
    name = parts.name;
    key = parts.key;
    deposed = deposed;
    prior_id = None;
    steps = [];
  };
  depends_on = [];
  id_before = None;
}

-- an object that the plan does not know; none where the address is not that of a resource
abbrev pub unknown_at : (address : List ℕ) → (deposed : Option (List ℕ)) → Option Object
unknown_at address deposed = option_map (unknown_with address deposed) (parts_in address)

abbrev pub unknown_object : Item → Option Object
unknown_object item = unknown_at item.address item.deposed

-- the first of these items that is about the object
abbrev pub item_about : List Item → ObjectName → Option Item
item_about items object = option_and_then (slice_get items) (number_in object_of_item items object)

-- ---- what is told of it

-- an object that a stream tells of; `Told`, as contracts see it
pub record ToldObject : Type 0 where
  pub object : ResourceChange
  pub name : List ℕ
  pub depends_on : List (List ℕ)
  pub id_before : Option (List ℕ)
  pub id_after : Option (List ℕ)
  pub seconds : ℕ
  pub failure : Option Note

abbrev pub told_view : Told → ToldObject
told_view told = record {
  object = told.object;
  name = told.name;
  depends_on = told.depends_on.items;
  id_before = told.id_before;
  id_after = told.id_after;
  seconds = told.seconds;
  failure = told.failure;
}

-- the id that a script states
abbrev pub stated_id : Option Item → Option (List ℕ)
stated_id item = option_and_then (λ item. item.id) item

-- the id that the start shows: of a refresh the id before, else the stated one; none of a read
abbrev pub id_at_start : Mode → (before stated : Option (List ℕ)) → Option (List ℕ)
id_at_start DataSource before stated = None
id_at_start Managed before stated = option_or before stated

-- the id that the completion shows: none of what has vanished, else the stated one, else the
-- object's
abbrev pub id_at_end : Option Item → (id : Option (List ℕ)) → Option (List ℕ)
id_at_end None id = id
id_at_end (Some item) id = if item.is_gone then None else option_or item.id id

abbrev pub severity_of : (only_warns : Bool) → Severity
severity_of only_warns = if only_warns then Warning else Error

-- the diagnostic of a failure
abbrev pub note_of : (address : List ℕ) → Failure → Note
note_of address failure = record { severity = severity_of failure.only_warns; diag = failure.diag; address = Some address }

abbrev pub failure_of : Option Item → Option Failure
failure_of item = option_and_then (λ item. item.failure) item

-- what a stream tells of the object, with an item about it
abbrev pub told_with : Object → Option Item → ToldObject
told_with object item = record {
  object = object.object;
  name = name_of object.object;
  depends_on = object.depends_on;
  id_before = id_at_start object.object.mode object.id_before (stated_id item);
  id_after = id_at_end item object.object.prior_id;
  seconds = option_map_or (λ item. item.seconds) item 0;
  failure = option_map (note_of object.object.address) (failure_of item);
}

-- ---- all of them

-- a stream tells of an object that the plan knows: where an item is about it, unless it is skipped
abbrev pub is_told : PlanningRules → PlannedObjects → ResourceChange → Option Item → Bool
is_told rules plan object item = option_map_or (λ item. not item.is_skipped) item (is_expected rules plan object)

abbrev pub told_if : Bool → Object → Option Item → List ToldObject
told_if is_told object item = if is_told then told_with object item ∷ [] else []

-- of an object that the plan knows, with an item about it
abbrev pub told_known_with : PlanningRules → PlannedObjects → Object → Option Item → List ToldObject
told_known_with rules plan object item = told_if (is_told rules plan object.object item) object item

-- of an object that the plan knows
abbrev pub told_known : PlanningRules → PlannedObjects → List Item → Object → List ToldObject
told_known rules plan items object = told_known_with rules plan object (item_about items (object_of object.object))

-- of the object of an item, by its address
abbrev pub told_at : Item → List ToldObject
told_at item = option_map_or (λ object. told_with object (Some item) ∷ []) (unknown_object item) []

-- of the object of an item, if the plan does not know it and it is not skipped
abbrev pub told_unless : (is_known : Bool) → Item → List ToldObject
told_unless is_known item = if is_known || item.is_skipped then [] else told_at item

abbrev pub told_unknown : List PriorObject → Item → List ToldObject
told_unknown objects item = told_unless (is_known objects (object_of_item item)) item

-- the objects that the plan knows in their order, then the others in the order of their items
abbrev pub told_of : PlanningRules → PlannedObjects → List PriorObject → List Item → List ToldObject
told_of rules plan objects items =
    flat_map (λ prior. told_known rules plan items (object_view prior)) objects ++ flat_map (told_unknown objects) items

-- the objects that a stream tells of by a script that may be absent, or the first fault of the script
abbrev pub told_by_script : PlanningRules → PlannedObjects → List PriorObject → Option (List ℕ) → Result (List ToldObject) ScriptError
told_by_script rules plan objects script = said_of objects script >>= λ items. Ok (told_of rules plan objects items)
