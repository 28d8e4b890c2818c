-- Reading the elements one by one gives the changes that are defined over the whole list.
use Rattle.std.proofs.Common.{◌≡◌, ℕ, Bool, true, false, Option, List, [], ◌∷◌, ◌++◌, length, cond, Ok, Err, refl, ap, subst, ◌∙◌, arith}
use Rattle.std.specs.List.{list_any}
use Rattle.std.specs.Prelude.{◌&&◌}
use Rattle.std.specs.Option.{option_eq, option_map_or}
use Rattle.std.specs.Str.{bytes_eq}
use Rattle.std.proofs.lemmas.List.{length-append}
use Rattle.std.proofs.lemmas.List.Folds.{list_any-append}
use Rattle.serde_json.specs.Data.{Data, Items}
use Rattle.apply_plan.specs.declared.plan.plan_error.PlanError.{PlanError}
use Rattle.apply_plan.specs.declared.plan.plan_error.PlanError.TheVariants.{BadChange, BadActions, BadAddress, Duplicate}
use Rattle.apply_json.specs.Tree.{list_of}
use Rattle.apply_plan.specs.ListReading.{made_after}
use Rattle.apply_model.specs.Plan.Address.{relative_address}
use Rattle.apply_plan.specs.Plan.Element.{Element, element_of}
use Rattle.apply_plan.specs.Plan.NextChange.{change_after}
use Rattle.apply_model.specs.Plan.ResourceChange.{ResourceChange}
use Rattle.apply_resolve.specs.ObjectName.{is_same_object}
use Rattle.apply_plan.specs.Plan.SavedPlan.{change_at, change_of, changes_of, names_object_of, planned_at}
use Rattle.apply_plan.specs.Plan.Steps.{steps_of_actions}
use Rattle.apply_plan.specs.Results.{or_refuse}
use Rattle.apply_plan.proofs.Results.{bind_ok, bind_same, guard_ok, ok_is, or_refuse_ok}
use Rattle.apply_plan.proofs.WholeList.{AnswersAlike, read_one_by_one}

-- the changes are those of the elements, one by one
record AreChangesOf (before : List Data) (earlier : List ResourceChange) : Type 0 where
  same_length : length earlier ≡ length before
  same_objects : (change : ResourceChange) → list_any (names_object_of change) before ≡ list_any (is_same_object change) earlier

-- an element names the object of its change
names_same : (n : ℕ) (d : Data) (made change : ResourceChange) → planned_at n d ≡ Ok made → names_object_of change d ≡ is_same_object change made
unfolding planned_at
names_same n d made change e =
    let formed = bind_ok (or_refuse (BadChange n) (element_of d)) _ made e in
    let stepped = bind_ok (or_refuse (BadActions n) (steps_of_actions formed.0.actions)) _ made formed.2 in
    let placed = bind_ok (or_refuse (BadAddress n) (relative_address formed.0.module_address formed.0.address)) _ made stepped.2 in
    let located = or_refuse_ok (BadChange n) (element_of d) formed.0 formed.1 in
    subst (λ (c : ResourceChange). names_object_of change d ≡ is_same_object change c) (ok_is {E = PlanError} (change_of formed.0 stepped.0) made placed.2)
    (ap (λ (o : Option Element). option_map_or (λ e. bytes_eq e.address change.address && option_eq bytes_eq e.deposed change.deposed) o false) located)

AreChangesOf-push : (before : List Data) (earlier : List ResourceChange) (d : Data) (made : ResourceChange) → AreChangesOf before earlier → planned_at (length earlier) d ≡ Ok made
    → AreChangesOf (before ++ d ∷ []) (earlier ++ made ∷ [])
AreChangesOf-push before earlier d made are e = record {
  same_length = omega (arith, length-append before (d ∷ []), length-append earlier (made ∷ []), are.same_length);
  same_objects = λ change. rw (list_any-append (names_object_of change) before (d ∷ []), list_any-append (is_same_object change) earlier (made ∷ []), are.same_objects change, names_same (length earlier) d made change e) refl;
}

-- both definitions compare the element with earlier ones
same_answer : (before : List Data) (earlier : List ResourceChange) (d : Data) → AreChangesOf before earlier → change_after earlier d ≡ change_at before d
unfolding change_after change_at
same_answer before earlier d are =
    rw are.same_length (bind_same (planned_at (length before) d) _ _ (λ c. rw (are.same_objects c) refl))

is_planned : (earlier : List ResourceChange) (d : Data) (made : ResourceChange) → change_after earlier d ≡ Ok made → planned_at (length earlier) d ≡ Ok made
unfolding change_after
is_planned earlier d made e =
    let planned = bind_ok (planned_at (length earlier) d) (λ c. cond (list_any (is_same_object c) earlier) (Err (Duplicate (length earlier))) (Ok c)) made e in
    let new = guard_ok (list_any (is_same_object planned.0) earlier) (Duplicate (length earlier)) (Ok planned.0) made planned.2 in
    planned.1 ∙ new.1

alike : AnswersAlike change_after change_at AreChangesOf
alike = record {
  none = record { same_length = refl; same_objects = λ change. refl };
  same = same_answer;
  more = λ before earlier d made are e. AreChangesOf-push before earlier d made are (is_planned earlier d made e);
}

pub changes_one_by_one : (elements : Items) → made_after change_after [] elements ≡ changes_of (list_of elements)
unfolding changes_of
changes_one_by_one elements = read_one_by_one change_after change_at AreChangesOf alike elements

-- ---- the result for an element, in the steps of a reader

pub faulty : (earlier : List ResourceChange) (n : ℕ) (d : Data) (e : PlanError) → length earlier ≡ n → planned_at n d ≡ Err e → change_after earlier d ≡ Err e
unfolding change_after
faulty earlier n d e count fault = rw (count, fault) refl

compared : (earlier : List ResourceChange) (n : ℕ) (d : Data) (change : ResourceChange) (named : Bool) → length earlier ≡ n → planned_at n d ≡ Ok change → list_any (is_same_object change) earlier ≡ named
    → change_after earlier d ≡ cond named (Err (Duplicate n)) (Ok change)
unfolding change_after
compared earlier n d change named count planned is = rw (count, planned, is) refl

pub repeats : (earlier : List ResourceChange) (n : ℕ) (d : Data) (change : ResourceChange) → length earlier ≡ n → planned_at n d ≡ Ok change → list_any (is_same_object change) earlier ≡ true
    → change_after earlier d ≡ Err (Duplicate n)
repeats earlier n d change count planned is = compared earlier n d change true count planned is

pub is_new : (earlier : List ResourceChange) (n : ℕ) (d : Data) (change : ResourceChange) → length earlier ≡ n → planned_at n d ≡ Ok change → list_any (is_same_object change) earlier ≡ false
    → change_after earlier d ≡ Ok change
is_new earlier n d change count planned is = compared earlier n d change false count planned is
