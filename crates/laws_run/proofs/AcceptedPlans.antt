-- The laws of plans that were read.
use Rattle.std.proofs.Common.{◌≡◌, ℕ, Bool, true, false, List, [], ◌∷◌, ◌++◌, length, cond, ltb, Option, Some, None, Ok, Err, refl, ap, subst, ◌∙◌}
use Rattle.std.specs.Prelude.{◌&&◌, ◌||◌}
use Rattle.std.specs.List.{AllByRecursion, list_any}
use Rattle.std.specs.Option.{option_eq}
use Rattle.std.specs.Str.{bytes_eq}
use Rattle.std.proofs.lemmas.Slice.Eq.{bytes_eq-Decides}
use Rattle.serde_json.specs.Data.{Data, Items, no_items, item}
use Rattle.serde_json.specs.Events.{items_len}
use Rattle.apply_plan.specs.declared.plan.plan_error.PlanError.TheVariants.{TooLarge, NotJson, NotAPlan, TooMany, BadChange, BadActions, BadAddress, Duplicate}
use Rattle.apply_model.specs.Plan.Address.{relative_address}
use Rattle.apply_plan.specs.Plan.Element.{element_of}
use Rattle.apply_plan.specs.Plan.Header.{Header, header_of}
use Rattle.laws_run.specs.Plans.{HasRelativeAddress, NamesEachObjectOnce}
use Rattle.apply_model.specs.Plan.SavedPlan.{SavedPlan, max_changes}
use Rattle.apply_plan.specs.Plan.SavedPlan.{changes_of, change_of, plan_of, plan_of_tree, planned_at}
use Rattle.apply_plan.specs.ListReading.{made_after}
use Rattle.apply_plan.specs.Plan.NextChange.{change_after}
use Rattle.apply_model.specs.Plan.ResourceChange.{ResourceChange}
use Rattle.apply_resolve.specs.ObjectName.{is_same_object}
use Rattle.apply_plan.specs.Plan.Steps.{steps_of_actions}
use Rattle.apply_json.specs.Tree.{list_of, tree_of}
use Rattle.apply_plan.specs.Bytes.{max_bytes}
use Rattle.apply_plan.specs.Results.{or_refuse}
use Rattle.laws_run.proofs.RelativeAddresses.{relative_joins}
use Rattle.apply_plan.proofs.Results.{bind_ok, done, guard_ok, ok_is, or_refuse_ok}
use Rattle.apply_plan.proofs.Plans.WholeList.{changes_one_by_one}

-- a plan that was read is made of a tree, element by element
pub record IsOfTree (bytes : List ℕ) (plan : SavedPlan) : Type 0 where
  pub tree : Data
  pub tree_is : tree_of bytes ≡ Some tree
  pub header : Header
  pub header_is : header_of tree ≡ Some header
  pub made : made_after change_after [] header.elements ≡ Ok plan.changes

pub read_from : (bytes : List ℕ) (plan : SavedPlan) → plan_of bytes ≡ Ok plan → IsOfTree bytes plan
unfolding plan_of plan_of_tree
read_from bytes plan e =
    let sized = guard_ok (ltb max_bytes (length bytes)) TooLarge _ plan e in
    let parsed = bind_ok (or_refuse NotJson (tree_of bytes)) plan_of_tree plan sized.1 in
    let top = bind_ok (or_refuse NotAPlan (header_of parsed.0)) _ plan parsed.2 in
    let few = guard_ok (ltb max_changes (items_len top.0.elements)) TooMany _ plan top.2 in
    let listed = bind_ok (changes_of (list_of top.0.elements)) _ plan few.1 in
    record {
      tree = parsed.0;
      tree_is = or_refuse_ok NotJson (tree_of bytes) parsed.0 parsed.1;
      header = top.0;
      header_is = or_refuse_ok NotAPlan (header_of parsed.0) top.0 top.1;
      made = changes_one_by_one top.0.elements ∙ listed.1 ∙ ap (λ (p : SavedPlan). done p.changes) (ok_is _ plan listed.2);
    }

-- a property that holds of no changes and is preserved by each further change holds of all changes
-- of a plan
holds_of_all : (P : List ResourceChange → Type 0) → ((earlier : List ResourceChange) (d : Data) (change : ResourceChange) → change_after earlier d ≡ Ok change → P earlier → P (earlier ++ change ∷ []))
    → (elements : Items) (earlier all : List ResourceChange) → P earlier → made_after change_after earlier elements ≡ Ok all → P all
unfolding made_after
holds_of_all P step no_items earlier all holds e = subst P (ok_is earlier all e) holds
holds_of_all P step (item d ds) earlier all holds e =
    let first = bind_ok (change_after earlier d) (λ change. made_after change_after (earlier ++ change ∷ []) ds) all e in
    holds_of_all P step ds (earlier ++ first.0 ∷ []) all (step earlier d first.0 first.1 holds) first.2

-- ---- each object once

left_or : (a b : Bool) → (a || b) ≡ false → (a ≡ false) × (b ≡ false)
left_or true b e = absurd cc
left_or false b e = (refl, e)

All-push : (P : ResourceChange → Type 0) (changes : List ResourceChange) (change : ResourceChange) → AllByRecursion P changes → P change → AllByRecursion P (changes ++ change ∷ [])
All-push P [] change all holds = (holds, tt)
All-push P (first ∷ others) change all holds = (all.0, All-push P others change all.1 holds)

option_eq-refl : (key : Option (List ℕ)) → option_eq bytes_eq key key ≡ true
option_eq-refl None = refl
option_eq-refl (Some key) = (bytes_eq-Decides key key).1 refl

same_texts : (address other : List ℕ) (deposed key : Option (List ℕ)) → other ≡ address → key ≡ deposed → (bytes_eq address other && option_eq bytes_eq deposed key) ≡ true
same_texts address other deposed key same_address same_key = rw (same_address, same_key, (bytes_eq-Decides address address).1 refl) (option_eq-refl deposed)

differs : (earlier change : ResourceChange) → is_same_object change earlier ≡ false → (change.address ≡ earlier.address) × (change.deposed ≡ earlier.deposed) → ⊥
differs earlier change other same =
    let both : is_same_object change earlier ≡ true = same_texts earlier.address change.address earlier.deposed change.deposed same.0 same.1 in
    cc

once_push : (changes : List ResourceChange) (change : ResourceChange) → NamesEachObjectOnce changes → list_any (is_same_object change) changes ≡ false → NamesEachObjectOnce (changes ++ change ∷ [])
once_push [] change once new = (tt, tt)
once_push (first ∷ others) change once new =
    let apart = left_or (is_same_object change first) (list_any (is_same_object change) others) new in
    (All-push _ others change once.0 (differs first change apart.0), once_push others change once.1 apart.1)

is_new : (earlier : List ResourceChange) (d : Data) (change : ResourceChange) → change_after earlier d ≡ Ok change → list_any (is_same_object change) earlier ≡ false
unfolding change_after
is_new earlier d change e =
    let planned = bind_ok (planned_at (length earlier) d) (λ c. cond (list_any (is_same_object c) earlier) (Err (Duplicate (length earlier))) (Ok c)) change e in
    let new = guard_ok (list_any (is_same_object planned.0) earlier) (Duplicate (length earlier)) (Ok planned.0) change planned.2 in
    subst (λ (c : ResourceChange). list_any (is_same_object c) earlier ≡ false) (ok_is planned.0 change new.1) new.0

pub each_once : (bytes : List ℕ) (plan : SavedPlan) → plan_of bytes ≡ Ok plan → NamesEachObjectOnce plan.changes
each_once bytes plan e =
    let read = read_from bytes plan e in
    holds_of_all NamesEachObjectOnce (λ earlier d change h once. once_push earlier change once (is_new earlier d change h)) read.header.elements [] plan.changes tt read.made

-- ---- relative addresses

has_relative : (earlier : List ResourceChange) (d : Data) (change : ResourceChange) → change_after earlier d ≡ Ok change → HasRelativeAddress change
unfolding change_after planned_at
has_relative earlier d change e =
    let n = length earlier in
    let planned = bind_ok (planned_at n d) (λ c. cond (list_any (is_same_object c) earlier) (Err (Duplicate n)) (Ok c)) change e in
    let new = guard_ok (list_any (is_same_object planned.0) earlier) (Duplicate n) (Ok planned.0) change planned.2 in
    let formed = bind_ok (or_refuse (BadChange n) (element_of d)) _ planned.0 planned.1 in
    let stepped = bind_ok (or_refuse (BadActions n) (steps_of_actions formed.0.actions)) _ planned.0 formed.2 in
    let placed = bind_ok (or_refuse (BadAddress n) (relative_address formed.0.module_address formed.0.address)) _ planned.0 stepped.2 in
    let located = or_refuse_ok (BadAddress n) (relative_address formed.0.module_address formed.0.address) placed.0 placed.1 in
    subst HasRelativeAddress (ok_is planned.0 change new.1)
    (subst HasRelativeAddress (ok_is (change_of formed.0 stepped.0) planned.0 placed.2) (relative_joins (change_of formed.0 stepped.0) placed.0 located))

pub all_joined : (bytes : List ℕ) (plan : SavedPlan) → plan_of bytes ≡ Ok plan → AllByRecursion HasRelativeAddress plan.changes
all_joined bytes plan e =
    let read = read_from bytes plan e in
    holds_of_all (AllByRecursion HasRelativeAddress) (λ earlier d change h all. All-push HasRelativeAddress earlier change all (has_relative earlier d change h)) read.header.elements [] plan.changes tt read.made
