-- Decisions on objects, by borrowed items.
use Rattle.std.proofs.Common.{◌≡◌, ℕ, ◌+◌, Bool, true, false, cond, List, [], ◌∷◌, map, Option, Some, option_map, refl, ap, ◌∙◌}
use Rattle.std.specs.Prelude.{find, not, slice_get}
use Rattle.std.specs.List.{enumerate_from}
use Rattle.std.specs.Option.{option_and_then, option_copied, option_map_or}
use Rattle.apply_model.specs.declared.details.change_details.ChangeDetails.{ChangeDetails}
use Rattle.apply_model.specs.Plan.ResourceChange.{ResourceChange}
use Rattle.apply_prior.specs.declared.drift.Drift.{Drift}
use Rattle.apply_prior.specs.declared.prior_object.PriorObject.{PriorObject}
use Rattle.apply_resolve.specs.declared.object_id.ObjectId.{ObjectId}
use Rattle.apply_planning_script.specs.ObjectIndex.{name_of_id}
use Rattle.apply_planning_script.specs.declared.decisions.Decision.{Decision}
use Rattle.apply_planning_script.specs.declared.raw_item.RawItem.{RawItem}
use Rattle.apply_planning_script.specs.declared.rules.PlanningRules.{PlanningRules}
use Rattle.apply_planning_script.specs.Decisions.{decision_on}
use Rattle.apply_planning_script.specs.Items.{Item, object_of_item}
use Rattle.apply_planning_script.specs.ItemSlots.{item_view, object_of_raw}
use Rattle.apply_planning_script.specs.Objects.{ObjectName, is_same_name, number_in, object_of}
use Rattle.apply_planning_script.specs.Rules.{PlannedObjects, is_expected}

same_cases : {X Y : Type 0} (b : Bool) (i : ℕ) (x : X) (y : Y) (o : Option (ℕ × X)) (p : Option (ℕ × Y)) → option_map (λ (q : ℕ × X). q.0) o ≡ option_map (λ (q : ℕ × Y). q.0) p
    → option_map (λ (q : ℕ × X). q.0) (cond b (Some (i, x)) o) ≡ option_map (λ (q : ℕ × Y). q.0) (cond b (Some (i, y)) p)
same_cases true i x y o p same = refl
same_cases false i x y o p same = same

numbers_from : (object : ObjectName) (items : List RawItem) (i : ℕ)
    → option_map (λ (q : ℕ × RawItem). q.0) (find (λ q. is_same_name (object_of_raw q.1) object) (enumerate_from i items))
    ≡ option_map (λ (q : ℕ × Item). q.0) (find (λ q. is_same_name (object_of_item q.1) object) (enumerate_from i (map item_view items)))
numbers_from object [] i = refl
numbers_from object (item ∷ items) i =
    same_cases (is_same_name (object_of_raw item) object) i item (item_view item) (find (λ q. is_same_name (object_of_raw q.1) object) (enumerate_from (i + 1) items))
    (find (λ q. is_same_name (object_of_item q.1) object) (enumerate_from (i + 1) (map item_view items))) (numbers_from object items (i + 1))

pub same_number : (object : ObjectName) (items : List RawItem) → number_in object_of_raw items object ≡ number_in object_of_item (map item_view items) object
same_number object items = numbers_from object items 0

abbrev decision : Bool → Option ℕ → Decision
decision is_told item = record { is_told = is_told; item = item }

-- the decision, by the number of the item and by the item of that number
pub decided : (rules : PlanningRules) (plan : PlannedObjects) (items : List RawItem) (object : ResourceChange) (number : Option ℕ) (is_told : Bool) (item : Option Item)
    → number ≡ number_in object_of_raw items (object_of object) → item ≡ option_and_then (slice_get (map item_view items)) number
    → is_told ≡ option_map_or (λ item. not item.is_skipped) item (is_expected rules plan object)
    → decision is_told number ≡ decision_on rules plan (map item_view items) object
decided rules plan items object number is_told item number_is item_is told_is =
    let numbered : number ≡ number_in object_of_item (map item_view items) (object_of object) = number_is ∙ same_number (object_of object) items in
    ap (λ (b : Bool). decision b number) (told_is ∙ ap (λ (o : Option Item). option_map_or (λ item. not item.is_skipped) o (is_expected rules plan object)) item_is)
    ∙ ap (λ (o : Option ℕ). decision (option_map_or (λ item. not item.is_skipped) (option_and_then (slice_get (map item_view items)) o) (is_expected rules plan object)) o) numbered

abbrev name : List ℕ → Option (List ℕ) → ObjectName
name address deposed = record { address = address; deposed = deposed }

pub named : (id : ObjectId) (change : ResourceChange) → id.address.now ≡ change.address → option_copied id.deposed ≡ change.deposed → name_of_id id ≡ object_of change
named id change address deposed = ap (λ (a : List ℕ). name a (option_copied id.deposed)) address ∙ ap (λ (d : Option (List ℕ)). name change.address d) deposed

-- the decisions on these objects
abbrev pub decisions_on : PlanningRules → PlannedObjects → List RawItem → List PriorObject → List Decision
decisions_on rules plan items objects = map (λ prior. decision_on rules plan (map item_view items) prior.object) objects

abbrev pub planned : List ResourceChange → List ChangeDetails → List Drift → PlannedObjects
planned changes details drifts = record { changes = changes; details = details; drifts = drifts }
