-- The members of an element of a plan as slots store them, for private types.
use Rattle.std.specs.Prelude.{◌≡◌, ℕ, List, [], codes, Bool, false, if◌then◌else◌, Option, Some, None, option_map, Result, Ok}
use Rattle.std.specs.Option.{option_copied}
use Rattle.serde_json.specs.Data.{Data, Members}
use Rattle.serde_json.specs.Find.{as_array, as_i64, get_member}
use Rattle.apply_json.specs.ShallowView.{ShallowView, absent, truth, number, text, an_array, an_object, shallow_view, shallow_of, shallow_text, shallow_text_or}
use Rattle.apply_json.specs.Tree.{◌>>=◌, member_of, non_empty_text_of, unless_empty, unless_null}
use Rattle.apply_model.specs.declared.plan.key.Key.{Key}
use Rattle.apply_model.specs.declared.plan.key.Key.TheVariants as key
use Rattle.apply_model.specs.declared.plan.mode.Mode.{Mode}
use Rattle.apply_model.specs.declared.plan.step_kind.StepKind.{StepKind}
use Rattle.apply_model.specs.Plan.Action.{steps_of_action}
use Rattle.apply_model.specs.Plan.Address.{relative_address}
use Rattle.apply_model.specs.Plan.ResourceChange.{ResourceChange}
use Rattle.apply_plan.specs.declared.plan.change_slots.ChangeSlots.{ChangeSlots}
use Rattle.apply_json.specs.declared.shallow.Shallow.{Shallow}
use Rattle.apply_plan.specs.declared.plan.element_member.ElementMember.{ElementMember}
use Rattle.apply_plan.specs.declared.plan.element_member.ElementMember.TheVariants as member
use Rattle.apply_plan.specs.declared.plan.element_slots.ElementSlots.{ElementSlots}
use Rattle.apply_plan.specs.declared.plan.id_slots.IdSlots.{IdSlots}
use Rattle.apply_plan.specs.declared.plan.plan_error.PlanError.{PlanError}
use Rattle.apply_plan.specs.declared.plan.plan_error.PlanError.TheVariants.{BadActions, BadAddress, BadChange}
use Rattle.apply_plan.specs.Plan.Element.{hides_id, mode_named, prior_id_of}
use Rattle.apply_plan.specs.Plan.ElementView.{ReadElement, change_with_steps, planned_change_view}
use Rattle.apply_plan.specs.Plan.Steps.{steps_of_actions}
use Rattle.apply_plan.specs.Results as results
use Rattle.apply_plan.specs.Results.{or_refuse}

-- ---- members that are no scalars; `null` counts as absent

-- the `id` of `before`; none if it is not a text or is empty
abbrev pub id_member : Option Data → Option (List ℕ)
id_member input = (input >>= unless_null) >>= λ before. non_empty_text_of (codes "id") before

-- whether `before_sensitive` hides the id
abbrev pub sensitive_member : Option Data → Bool
sensitive_member input = hides_id (input >>= unless_null)

-- the steps of an action list, if it is valid; none if there is no list
abbrev pub actions_member : Option Data → Option (Option (List StepKind))
actions_member input = do
  list ← input >>= unless_null
  actions ← as_array list
  Some (steps_of_actions actions)

-- what `change` states: the steps, and the id before the change
abbrev pub change_member : Option Data → Option (Option (List StepKind) × Option (List ℕ))
change_member input = do
  change ← input >>= unless_null
  list ← member_of (codes "actions") change
  actions ← as_array list
  Some (steps_of_actions actions, prior_id_of change)

-- ---- scalars

abbrev pub is_true_read : ShallowView → Bool
is_true_read absent = false
is_true_read (truth b) = b
is_true_read (number n) = false
is_true_read (text s) = false
is_true_read an_array = false
is_true_read an_object = false

abbrev pub mode_read : ShallowView → Option Mode
mode_read input = shallow_text input >>= mode_named

abbrev pub key_read : ShallowView → Option Key
key_read absent = Some key.None
key_read (truth b) = None
key_read (number n) = option_map key.Number (as_i64 n)
key_read (text s) = Some (key.Name s)
key_read an_array = None
key_read an_object = None

abbrev pub name_of : ElementMember → List ℕ
name_of member.Address = codes "address"
name_of member.Mode = codes "mode"
name_of member.Type = codes "type"
name_of member.Name = codes "name"
name_of member.ModuleAddress = codes "module_address"
name_of member.Index = codes "index"
name_of member.Deposed = codes "deposed"

-- the slots with this scalar stored
abbrev pub with_scalar : ElementSlots → ElementMember → Shallow → ElementSlots
with_scalar slots member.Address input = record slots { address = input }
with_scalar slots member.Mode input = record slots { mode = input }
with_scalar slots member.Type input = record slots { kind_name = input }
with_scalar slots member.Name input = record slots { name = input }
with_scalar slots member.ModuleAddress input = record slots { module_address = input }
with_scalar slots member.Index input = record slots { index = input }
with_scalar slots member.Deposed input = record slots { deposed = input }

-- ---- the slots hold what the members state

pub record HoldsId (slots : IdSlots) (ms : Members) : Type 0 where
  pub id : shallow_view slots.id ≡ shallow_of (get_member (codes "id") ms)

pub record HoldsChange (slots : ChangeSlots) (ms : Members) : Type 0 where
  pub actions : option_map (λ action. option_map steps_of_action action) slots.actions ≡ actions_member (get_member (codes "actions") ms)
  pub id : option_copied slots.id ≡ id_member (get_member (codes "before") ms)
  pub hides_id : slots.hides_id ≡ sensitive_member (get_member (codes "before_sensitive") ms)

pub record HoldsElement (slots : ElementSlots) (ms : Members) : Type 0 where
  pub address : shallow_view slots.address ≡ shallow_of (get_member (codes "address") ms)
  pub mode : shallow_view slots.mode ≡ shallow_of (get_member (codes "mode") ms)
  pub kind_name : shallow_view slots.kind_name ≡ shallow_of (get_member (codes "type") ms)
  pub name : shallow_view slots.name ≡ shallow_of (get_member (codes "name") ms)
  pub module_address : shallow_view slots.module_address ≡ shallow_of (get_member (codes "module_address") ms)
  pub index : shallow_view slots.index ≡ shallow_of (get_member (codes "index") ms)
  pub deposed : shallow_view slots.deposed ≡ shallow_of (get_member (codes "deposed") ms)
  pub change : option_map planned_change_view slots.change ≡ change_member (get_member (codes "change") ms)

-- ---- what is read from the slots; none if a member is invalid or missing

abbrev pub change_read : ChangeSlots → Option (Option (List StepKind) × Option (List ℕ))
change_read slots = do
  steps ← option_map (λ action. option_map steps_of_action action) slots.actions
  Some (steps, if slots.hides_id then None else option_copied slots.id)

abbrev pub element_read : ElementSlots → Option ReadElement
element_read slots = do
  address ← shallow_text (shallow_view slots.address)
  mode ← mode_read (shallow_view slots.mode)
  kind_name ← shallow_text (shallow_view slots.kind_name) >>= unless_empty
  name ← shallow_text (shallow_view slots.name) >>= unless_empty
  module_address ← shallow_text_or [] (shallow_view slots.module_address)
  key ← key_read (shallow_view slots.index)
  deposed ← shallow_text_or [] (shallow_view slots.deposed)
  change ← option_map planned_change_view slots.change
  Some (record {
    address = address;
    mode = mode;
    kind_name = kind_name;
    name = name;
    module_address = module_address;
    key = key;
    deposed = unless_empty deposed;
    steps = change.0;
    prior_id = change.1;
  })

-- the change of element n, or the first fault of the element by itself
abbrev pub planned_read : ℕ → Option ReadElement → Result ResourceChange PlanError
planned_read n input =
    results.◌>>=◌ (or_refuse (BadChange n) input) λ e. results.◌>>=◌ (or_refuse (BadActions n) e.steps) λ steps.
    results.◌>>=◌ (or_refuse (BadAddress n) (relative_address e.module_address e.address)) λ relative. Ok (change_with_steps e steps)
