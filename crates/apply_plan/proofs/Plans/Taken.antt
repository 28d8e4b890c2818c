-- The slots of an element and of its change, after one member more.
use Rattle.std.proofs.Common.{◌≡◌, ℕ, List, codes, true, false, Some, option_map}
use Rattle.std.specs.Option.{option_copied}
use Rattle.std.specs.Str.{bytes_eq}
use Rattle.serde_json.specs.Data.{Data, Members, put}
use Rattle.apply_json.specs.declared.shallow.Shallow.{Shallow}
use Rattle.apply_json.specs.ShallowView.{shallow_view, shallow_of}
use Rattle.apply_json.proofs.Held.{left}
use Rattle.apply_json.proofs.OneMember.{after_member, located_after}
use Rattle.apply_model.specs.Plan.Action.{steps_of_action}
use Rattle.apply_plan.specs.declared.plan.change_slots.ChangeSlots.{ChangeSlots}
use Rattle.apply_plan.specs.declared.plan.element_member.ElementMember.{ElementMember}
use Rattle.apply_plan.specs.declared.plan.element_member.ElementMember.TheVariants as member
use Rattle.apply_plan.specs.declared.plan.element_slots.ElementSlots.{ElementSlots}
use Rattle.apply_plan.specs.Plan.ElementView.{planned_change_view}
use Rattle.apply_plan.specs.Plan.Members.{HoldsChange, HoldsElement, actions_member, change_member, id_member, name_of, sensitive_member, with_scalar}

module _ (k q : List ℕ) (d : Data) (ms : Members) (here : bytes_eq k q ≡ true) where
  element_behind : (slots : ElementSlots) → shallow_view slots.address ≡ shallow_of (located_after q d ms (codes "address"))
      → shallow_view slots.mode ≡ shallow_of (located_after q d ms (codes "mode")) → shallow_view slots.kind_name ≡ shallow_of (located_after q d ms (codes "type"))
      → shallow_view slots.name ≡ shallow_of (located_after q d ms (codes "name"))
      → shallow_view slots.module_address ≡ shallow_of (located_after q d ms (codes "module_address"))
      → shallow_view slots.index ≡ shallow_of (located_after q d ms (codes "index"))
      → shallow_view slots.deposed ≡ shallow_of (located_after q d ms (codes "deposed"))
      → option_map planned_change_view slots.change ≡ change_member (located_after q d ms (codes "change")) → HoldsElement slots (put k d ms)
  element_behind slots address mode kind_name name module_address index deposed change = record {
    address = after_member shallow_of (codes "address") k q d ms _ here address;
    mode = after_member shallow_of (codes "mode") k q d ms _ here mode;
    kind_name = after_member shallow_of (codes "type") k q d ms _ here kind_name;
    name = after_member shallow_of (codes "name") k q d ms _ here name;
    module_address = after_member shallow_of (codes "module_address") k q d ms _ here module_address;
    index = after_member shallow_of (codes "index") k q d ms _ here index;
    deposed = after_member shallow_of (codes "deposed") k q d ms _ here deposed;
    change = after_member change_member (codes "change") k q d ms _ here change;
  }

  pub change_behind : (slots : ChangeSlots) → option_map (λ action. option_map steps_of_action action) slots.actions ≡ actions_member (located_after q d ms (codes "actions"))
      → option_copied slots.id ≡ id_member (located_after q d ms (codes "before"))
      → slots.hides_id ≡ sensitive_member (located_after q d ms (codes "before_sensitive")) → HoldsChange slots (put k d ms)
  change_behind slots actions id hides_id = record {
    actions = after_member actions_member (codes "actions") k q d ms _ here actions;
    id = after_member id_member (codes "before") k q d ms _ here id;
    hides_id = after_member sensitive_member (codes "before_sensitive") k q d ms _ here hides_id;
  }

module _ (slots : ElementSlots) (k : List ℕ) (d : Data) (ms : Members) (holds : HoldsElement slots ms) where
  -- a scalar
  pub takes_scalar : (which : ElementMember) (input : Shallow) → bytes_eq k (name_of which) ≡ true → shallow_view input ≡ shallow_of (Some d) → HoldsElement (with_scalar slots which input) (put k d ms)
  takes_scalar member.Address input here is = element_behind k (codes "address") d ms here _ is holds.mode holds.kind_name holds.name holds.module_address holds.index holds.deposed holds.change
  takes_scalar member.Mode input here is = element_behind k (codes "mode") d ms here _ holds.address is holds.kind_name holds.name holds.module_address holds.index holds.deposed holds.change
  takes_scalar member.Type input here is = element_behind k (codes "type") d ms here _ holds.address holds.mode is holds.name holds.module_address holds.index holds.deposed holds.change
  takes_scalar member.Name input here is = element_behind k (codes "name") d ms here _ holds.address holds.mode holds.kind_name is holds.module_address holds.index holds.deposed holds.change
  takes_scalar member.ModuleAddress input here is = element_behind k (codes "module_address") d ms here _ holds.address holds.mode holds.kind_name holds.name is holds.index holds.deposed holds.change
  takes_scalar member.Index input here is = element_behind k (codes "index") d ms here _ holds.address holds.mode holds.kind_name holds.name holds.module_address is holds.deposed holds.change
  takes_scalar member.Deposed input here is = element_behind k (codes "deposed") d ms here _ holds.address holds.mode holds.kind_name holds.name holds.module_address holds.index is holds.change

  -- the member `change`
  pub takes_change : (new : ElementSlots) → bytes_eq k (codes "change") ≡ true → option_map planned_change_view new.change ≡ change_member (Some d) → new ≡ record slots { change = new.change } → HoldsElement new (put k d ms)
  takes_change new here is same = rw same (element_behind k (codes "change") d ms here _ holds.address holds.mode holds.kind_name holds.name holds.module_address holds.index holds.deposed is)

  -- a skipped member
  pub takes_other : ((which : ElementMember) → bytes_eq k (name_of which) ≡ false) → bytes_eq k (codes "change") ≡ false → HoldsElement slots (put k d ms)
  takes_other unknown no_change = record {
    address = left shallow_of (codes "address") k d ms _ (unknown member.Address) holds.address;
    mode = left shallow_of (codes "mode") k d ms _ (unknown member.Mode) holds.mode;
    kind_name = left shallow_of (codes "type") k d ms _ (unknown member.Type) holds.kind_name;
    name = left shallow_of (codes "name") k d ms _ (unknown member.Name) holds.name;
    module_address = left shallow_of (codes "module_address") k d ms _ (unknown member.ModuleAddress) holds.module_address;
    index = left shallow_of (codes "index") k d ms _ (unknown member.Index) holds.index;
    deposed = left shallow_of (codes "deposed") k d ms _ (unknown member.Deposed) holds.deposed;
    change = left change_member (codes "change") k d ms _ no_change holds.change;
  }
