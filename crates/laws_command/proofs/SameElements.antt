-- Elements that are alike say the same.
use Rattle.std.proofs.Common.{◌≡◌, ℕ, List, Bool, true, false, if◌then◌else◌, Option, Some, None, ap₂, refl, sym}
use Rattle.std.specs.Prelude.{codes}
use Rattle.serde_json.specs.Data.{Data, Items}
use Rattle.serde_json.specs.Find.{as_array}
use Rattle.apply_json.specs.Tree.{◌>>=◌, member_of}
use Rattle.apply_plan.specs.Plan.Element.{element_of, hides_id, prior_id_of}
use Rattle.apply_plan_terraform.specs.Details as details
use Rattle.apply_model.specs.declared.details.change_details.ChangeDetails.{ChangeDetails}
use Rattle.apply_model.specs.Plan.ResourceChange.{ResourceChange}
use Rattle.apply_prior.specs.Drifts.{drift_of, drifted_of, unless_still}
use Rattle.apply_prior.specs.Elements.{names_of}
use Rattle.apply_prior.specs.Objects.{state_object}
use Rattle.laws_command.specs.Alike.{AreAlikeChanges, AreAlikeDrifts, AreAlikeObjects, AreBoth, HaveSameId, id_in}

-- an id that both hide, or that is the same
pub same_id : (hides : Option Data → Bool) (values sensitive : List ℕ) (one other : Data) → HaveSameId hides values sensitive one other
    → (if hides (member_of sensitive one) then None else id_in values one) ≡ (if hides (member_of sensitive other) then None else id_in values other)
same_id hides values sensitive one other same = by_case (hides (member_of sensitive one)) refl
  where
    by_case : (b : Bool) → hides (member_of sensitive one) ≡ b
        → (if hides (member_of sensitive one) then None else id_in values one) ≡ (if hides (member_of sensitive other) then None else id_in values other)
    by_case true is = rw (sym same.hidden, is) refl
    by_case false is = rw (sym same.hidden, is, same.shown is) refl

-- ---- elements of a prior state

names_by : (one other : Data) → member_of (codes "address") one ≡ member_of (codes "address") other → member_of (codes "mode") one ≡ member_of (codes "mode") other
    → member_of (codes "type") one ≡ member_of (codes "type") other → member_of (codes "name") one ≡ member_of (codes "name") other
    → member_of (codes "index") one ≡ member_of (codes "index") other → names_of one ≡ names_of other
names_by one other address mode kind name index = rw (address, mode, kind, name, index) refl

pub same_object : (module_address : List ℕ) (one other : Data) → AreAlikeObjects one other → state_object module_address one ≡ state_object module_address other
same_object module_address one other same =
    let id = same_id hides_id (codes "values") (codes "sensitive_values") one other same.id in
    let names = names_by one other (same.members (codes "address") refl) (same.members (codes "mode") refl) (same.members (codes "type") refl) (same.members (codes "name") refl)
    (same.members (codes "index") refl) in
    let deposed = same.members (codes "deposed_key") refl in
    rw (names, deposed, id) refl

-- ---- drifts

-- what is the same of two changes that are alike is the same of both or neither
both : {X : Type 0} (f : Option Data → X) → ((one other : Data) → AreAlikeChanges one other → f (Some one) ≡ f (Some other))
    → (one other : Option Data) → AreBoth AreAlikeChanges one other → f one ≡ f other
both f each None None same = refl
both f each None (Some other) same = absurd same
both f each (Some one) None same = absurd same
both f each (Some one) (Some other) same = each one other same

-- the actions of a change, and the id before it
planned_in : Option Data → Option (Items × Option (List ℕ))
planned_in change = do
  change ← change
  list ← member_of (codes "actions") change
  actions ← as_array list
  Some (actions, prior_id_of change)

same_planned : (one other : Data) → AreAlikeChanges one other → planned_in (Some one) ≡ planned_in (Some other)
unfolding planned_in
same_planned one other same =
    let id = same_id hides_id (codes "before") (codes "before_sensitive") one other same.before in
    rw (same.members (codes "actions") refl, id) refl

same_forgets : (one other : Data) → AreAlikeChanges one other → details.forgets_in (Some one) ≡ details.forgets_in (Some other)
same_forgets one other same = rw (same.members (codes "actions") refl) refl

same_import : (one other : Data) → AreAlikeChanges one other → details.imported_in (Some one) ≡ details.imported_in (Some other)
same_import one other same = rw (same.members (codes "importing") refl) refl

same_config : (one other : Data) → AreAlikeChanges one other → details.config_in (Some one) ≡ details.config_in (Some other)
same_config one other same = rw (same.members (codes "generated_config") refl) refl

same_planned_id : (one other : Data) → AreAlikeChanges one other → details.planned_id_in (Some one) ≡ details.planned_id_in (Some other)
same_planned_id one other same = same_id details.hides_id (codes "after") (codes "after_sensitive") one other same.after

module _ (one other : Data) (same : AreAlikeDrifts one other) where
  abbrev change_one : Option Data
  change_one = member_of (codes "change") one

  abbrev change_other : Option Data
  change_other = member_of (codes "change") other

  same_details : details.element_details one ≡ details.element_details other
  same_details =
      let forgets = both details.forgets_in same_forgets change_one change_other same.change in
      let imported = both details.imported_in same_import change_one change_other same.change in
      let config = both details.config_in same_config change_one change_other same.change in
      let id = both details.planned_id_in same_planned_id change_one change_other same.change in
      let reason = same.members (codes "action_reason") refl in
      let previous = same.members (codes "previous_address") refl in
      rw (forgets, imported, config, id, reason, previous) refl

  same_element : element_of one ≡ element_of other
  unfolding element_of planned_in
  same_element =
      let planned : planned_in change_one ≡ planned_in change_other = both planned_in same_planned change_one change_other same.change in
      rw (
        same.members (codes "address") refl,
        same.members (codes "mode") refl,
        same.members (codes "type") refl,
        same.members (codes "name") refl,
        same.members (codes "module_address") refl,
        same.members (codes "index") refl,
        same.members (codes "deposed") refl,
        planned,
      ) refl

  pub same_drift : drift_of one ≡ drift_of other
  same_drift =
      let drifted : drifted_of one ≡ drifted_of other = rw (same_element) refl in
      ap₂ (λ (change : Option ResourceChange) (d : ChangeDetails). change >>= λ it. unless_still it d) drifted same_details
