-- A plan that was read has changes with two steps at most, of different kinds.
use Rattle.std.proofs.Common.{◌≡◌, ℕ, zero, suc, Bool, true, false, List, [], ◌∷◌, codes, cond, length, ltb, map, slice_get, take, Option, Some, None, Result, Ok, Err, ap, ◌∙◌, subst, sym, refl}
use Rattle.std.specs.Prelude.{◌&&◌, IfSome}
use Rattle.std.specs.List.{AllByRecursion, enumerate_from, list_any}
use Rattle.serde_json.specs.Data.{Data, Items, no_items, item}
use Rattle.serde_json.specs.Events.{items_len}
use Rattle.apply_json.specs.Tree.{is_word, list_of, tree_of}
use Rattle.apply_model.specs.declared.plan.step_kind.StepKind.{StepKind}
use Rattle.apply_model.specs.declared.plan.step_kind.StepKind.TheVariants.{Create, Update, Delete, Read}
use Rattle.apply_model.specs.Plan.Address.{relative_address}
use Rattle.apply_model.specs.Plan.ResourceChange.{ResourceChange}
use Rattle.apply_model.specs.Plan.SavedPlan.{SavedPlan, max_changes}
use Rattle.apply_plan.specs.declared.plan.plan_error.PlanError.TheVariants.{TooLarge, NotJson, NotAPlan, TooMany, BadChange, BadActions, BadAddress, Duplicate}
use Rattle.apply_plan.specs.Bytes.{max_bytes}
use Rattle.apply_plan.specs.Plan.Element.{element_of}
use Rattle.apply_plan.specs.Plan.Header.{header_of}
use Rattle.apply_plan.specs.Plan.SavedPlan.{change_at, change_of, changes_of, names_object_of, plan_of, plan_of_tree, planned_at}
use Rattle.apply_plan.specs.Plan.Steps.{steps_alone, steps_of_actions, steps_together}
use Rattle.apply_plan.specs.Results.{◌>>=◌, or_refuse}
use Rattle.apply_plan.proofs.Results.{bind_ok, guard_ok, ok_is, or_refuse_ok}
use Rattle.laws_scripts.specs.Kinds.{AreKinds}
use Rattle.laws_scripts.proofs.Entries.{all_answered, held_at, if_some}

kinds_if : (b : Bool) (steps : List StepKind) (others : Option (List StepKind)) → AreKinds steps → IfSome others AreKinds → IfSome (cond b (Some steps) others) AreKinds
kinds_if true steps others are rest = are
kinds_if false steps others are rest = rest

alone : (action : Data) → IfSome (steps_alone action) AreKinds
alone action =
    kinds_if (is_word (codes "no-op") action) [] _ tt
    (kinds_if (is_word (codes "create") action) (Create ∷ []) _ tt
    (kinds_if (is_word (codes "read") action) (Read ∷ []) _ tt
    (kinds_if (is_word (codes "update") action) (Update ∷ []) _ tt
    (kinds_if (is_word (codes "delete") action) (Delete ∷ []) _ tt
    (kinds_if (is_word (codes "forget") action) [] None tt tt)))))

together : (first second : Data) → IfSome (steps_together first second) AreKinds
together first second =
    kinds_if (is_word (codes "delete") first && is_word (codes "create") second) (Delete ∷ Create ∷ []) _ refl
    (kinds_if (is_word (codes "create") first && is_word (codes "delete") second) (Create ∷ Delete ∷ []) None refl tt)

of_actions : (actions : Items) → IfSome (steps_of_actions actions) AreKinds
of_actions no_items = tt
of_actions (item action no_items) = alone action
of_actions (item first (item second no_items)) = together first second
of_actions (item first (item second (item third others))) = tt

kinds_planned : (n : ℕ) (d : Data) (change : ResourceChange) → planned_at n d ≡ Ok change → AreKinds change.steps
unfolding planned_at
kinds_planned n d change e =
    let formed = bind_ok (or_refuse (BadChange n) (element_of d)) _ change e in
    let stepped = bind_ok (or_refuse (BadActions n) (steps_of_actions formed.0.actions)) _ change formed.2 in
    let placed = bind_ok (or_refuse (BadAddress n) (relative_address formed.0.module_address formed.0.address)) _ change stepped.2 in
    let steps = or_refuse_ok (BadActions n) (steps_of_actions formed.0.actions) stepped.0 stepped.1 in
    subst (λ (c : ResourceChange). AreKinds c.steps) (ok_is (change_of formed.0 stepped.0) change placed.2)
    (if_some AreKinds (steps_of_actions formed.0.actions) stepped.0 steps (of_actions formed.0.actions))

kinds_at : (before : List Data) (d : Data) (change : ResourceChange) → change_at before d ≡ Ok change → AreKinds change.steps
unfolding change_at
kinds_at before d change e =
    let planned = bind_ok (planned_at (length before) d) (λ c. cond (list_any (names_object_of c) before) (Err (Duplicate (length before))) (Ok c)) change e in
    let new = guard_ok (list_any (names_object_of planned.0) before) (Duplicate (length before)) (Ok planned.0) change planned.2 in
    subst (λ (c : ResourceChange). AreKinds c.steps) (ok_is planned.0 change new.1) (kinds_planned (length before) d planned.0 planned.1)

kinds_in : (elements : List Data) (changes : List ResourceChange) → changes_of elements ≡ Ok changes → AllByRecursion (λ (change : ResourceChange). AreKinds change.steps) changes
unfolding changes_of
kinds_in elements changes e =
    all_answered (λ (change : ResourceChange). AreKinds change.steps) (λ (p : ℕ × Data). change_at (take p.0 elements) p.1) (enumerate_from 0 elements) changes
    (λ p change is. kinds_at (take p.0 elements) p.1 change is) e

kinds_read : (bytes : List ℕ) (plan : SavedPlan) → plan_of bytes ≡ Ok plan → AllByRecursion (λ (change : ResourceChange). AreKinds change.steps) plan.changes
unfolding plan_of plan_of_tree
kinds_read bytes plan e =
    let sized = guard_ok (ltb max_bytes (length bytes)) TooLarge _ plan e in
    let parsed = bind_ok (or_refuse NotJson (tree_of bytes)) plan_of_tree plan sized.1 in
    let top = bind_ok (or_refuse NotAPlan (header_of parsed.0)) _ plan parsed.2 in
    let elements = top.0.elements in
    let few = guard_ok (ltb max_changes (items_len elements)) TooMany _ plan top.2 in
    let listed = bind_ok (changes_of (list_of elements)) _ plan few.1 in
    subst (λ (p : SavedPlan). AllByRecursion (λ (change : ResourceChange). AreKinds change.steps) p.changes) (ok_is _ plan listed.2)
    (kinds_in (list_of elements) listed.0 listed.1)

pub kinds_of_change : (bytes : List ℕ) (plan : SavedPlan) (c : ℕ) (change : ResourceChange) → plan_of bytes ≡ Ok plan → slice_get plan.changes c ≡ Some change → AreKinds change.steps
kinds_of_change bytes plan c change e at = held_at (λ (one : ResourceChange). AreKinds one.steps) plan.changes c change (kinds_read bytes plan e) at
