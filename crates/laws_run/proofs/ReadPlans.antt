-- A plan that was read has few changes, and each has two steps at most.
use Rattle.std.proofs.Common.{◌≡◌, ℕ, zero, suc, ◌≤◌, Bool, true, false, List, [], ◌∷◌, codes, cond, length, ltb, map, slice_get, take, Option, Some, None, Result, Ok, Err, ap, ◌∙◌, subst, sym, arith}
use Rattle.std.specs.Prelude.{◌&&◌, IfSome}
use Rattle.std.specs.List.{AllByRecursion, enumerate_from, list_any}
use Rattle.std.specs.Option.{option_map_or}
use Rattle.std.proofs.lemmas.Bool.{ltb-false}
use Rattle.std.proofs.lemmas.List.FromFn.{length-enumerate_from}
use Rattle.serde_json.specs.Data.{Data, Items, no_items, item}
use Rattle.serde_json.specs.Events.{items_len}
use Rattle.apply_json.specs.Tree.{is_word, list_of, tree_of}
use Rattle.apply_model.specs.declared.plan.step_kind.StepKind.{StepKind}
use Rattle.apply_model.specs.declared.plan.step_kind.StepKind.TheVariants.{Create, Update, Delete, Read}
use Rattle.apply_model.specs.Plan.Address.{relative_address}
use Rattle.apply_model.specs.Plan.ResourceChange.{ResourceChange}
use Rattle.apply_model.specs.Plan.SavedPlan.{SavedPlan, max_changes}
use Rattle.apply_plan.specs.declared.plan.plan_error.PlanError.TheVariants.{TooLarge, NotJson, NotAPlan, TooMany, BadChange, BadActions, BadAddress, Duplicate}
use Rattle.apply_plan.specs.Bytes.{max_bytes}
use Rattle.apply_plan.specs.Plan.Element.{element_of}
use Rattle.apply_plan.specs.Plan.Header.{header_of}
use Rattle.apply_plan.specs.Plan.SavedPlan.{change_at, change_of, changes_of, names_object_of, plan_of, plan_of_tree, planned_at}
use Rattle.apply_plan.specs.Plan.Steps.{steps_alone, steps_of_actions, steps_together}
use Rattle.apply_plan.specs.Results.{◌>>=◌, all_or_first, or_refuse}
use Rattle.apply_plan.proofs.ListReading.{items_len-list_of}
use Rattle.apply_plan.proofs.Results.{bind_ok, done, guard_ok, ok_is, or_refuse_ok}

-- ---- answers for a whole list

pub all_answered : {X Y F : Type 0} (P : Y → Type 0) (f : X → Result Y F) (xs : List X) (ys : List Y) → ((x : X) (y : Y) → f x ≡ Ok y → P y) → all_or_first (map f xs) ≡ Ok ys → AllByRecursion P ys
all_answered P f [] ys holds e = subst (AllByRecursion P) (ok_is [] ys e) tt
all_answered P f (x ∷ xs) ys holds e =
    let first = bind_ok (f x) (λ y. all_or_first (map f xs) >>= λ rest. done (y ∷ rest)) ys e in
    let others = bind_ok (all_or_first (map f xs)) (λ rest. done (first.0 ∷ rest)) ys first.2 in
    subst (AllByRecursion P) (ok_is (first.0 ∷ others.0) ys others.2) (holds x first.0 first.1, all_answered P f xs others.0 holds others.1)

as_many : {X Y F : Type 0} (f : X → Result Y F) (xs : List X) (ys : List Y) → all_or_first (map f xs) ≡ Ok ys → length ys ≡ length xs
as_many f [] ys e = sym (ap (λ (l : List _). length l) (ok_is [] ys e))
as_many f (x ∷ xs) ys e =
    let first = bind_ok (f x) (λ y. all_or_first (map f xs) >>= λ rest. done (y ∷ rest)) ys e in
    let others = bind_ok (all_or_first (map f xs)) (λ rest. done (first.0 ∷ rest)) ys first.2 in
    let all = ap (λ (l : List _). length l) (ok_is (first.0 ∷ others.0) ys others.2) in
    let rest = as_many f xs others.0 others.1 in
    omega arith

-- ---- the steps of a change

abbrev AreFew : List StepKind → Type 0
AreFew steps = length steps ≤ 2

few_if : (b : Bool) (steps : List StepKind) (others : Option (List StepKind)) → AreFew steps → IfSome others AreFew → IfSome (cond b (Some steps) others) AreFew
few_if true steps others few rest = few
few_if false steps others few rest = rest

few_alone : (action : Data) → IfSome (steps_alone action) AreFew
few_alone action =
    few_if (is_word (codes "no-op") action) [] _ (omega arith)
    (few_if (is_word (codes "create") action) (Create ∷ []) _ (omega arith)
    (few_if (is_word (codes "read") action) (Read ∷ []) _ (omega arith)
    (few_if (is_word (codes "update") action) (Update ∷ []) _ (omega arith)
    (few_if (is_word (codes "delete") action) (Delete ∷ []) _ (omega arith)
    (few_if (is_word (codes "forget") action) [] None (omega arith) tt)))))

few_together : (first second : Data) → IfSome (steps_together first second) AreFew
few_together first second =
    few_if (is_word (codes "delete") first && is_word (codes "create") second) (Delete ∷ Create ∷ []) _ (omega arith)
    (few_if (is_word (codes "create") first && is_word (codes "delete") second) (Create ∷ Delete ∷ []) None (omega arith) tt)

few_of_actions : (actions : Items) → IfSome (steps_of_actions actions) AreFew
few_of_actions no_items = tt
few_of_actions (item action no_items) = few_alone action
few_of_actions (item first (item second no_items)) = few_together first second
few_of_actions (item first (item second (item third others))) = tt

where_some : {X : Type 0} (P : X → Type 0) (located : Option X) (x : X) → IfSome located P → located ≡ Some x → P x
where_some P None x holds e = absurd cc
where_some P (Some y) x holds e = subst P (let same : y ≡ x = cc in same) holds

few_planned : (n : ℕ) (d : Data) (change : ResourceChange) → planned_at n d ≡ Ok change → AreFew change.steps
unfolding planned_at
few_planned n d change e =
    let formed = bind_ok (or_refuse (BadChange n) (element_of d)) _ change e in
    let stepped = bind_ok (or_refuse (BadActions n) (steps_of_actions formed.0.actions)) _ change formed.2 in
    let placed = bind_ok (or_refuse (BadAddress n) (relative_address formed.0.module_address formed.0.address)) _ change stepped.2 in
    let steps = or_refuse_ok (BadActions n) (steps_of_actions formed.0.actions) stepped.0 stepped.1 in
    subst (λ (c : ResourceChange). AreFew c.steps) (ok_is (change_of formed.0 stepped.0) change placed.2)
    (where_some AreFew (steps_of_actions formed.0.actions) stepped.0 (few_of_actions formed.0.actions) steps)

few_at : (before : List Data) (d : Data) (change : ResourceChange) → change_at before d ≡ Ok change → AreFew change.steps
unfolding change_at
few_at before d change e =
    let planned = bind_ok (planned_at (length before) d) (λ c. cond (list_any (names_object_of c) before) (Err (Duplicate (length before))) (Ok c)) change e in
    let new = guard_ok (list_any (names_object_of planned.0) before) (Duplicate (length before)) (Ok planned.0) change planned.2 in
    subst (λ (c : ResourceChange). AreFew c.steps) (ok_is planned.0 change new.1) (few_planned (length before) d planned.0 planned.1)

few_in : (elements : List Data) (changes : List ResourceChange) → changes_of elements ≡ Ok changes → AllByRecursion (λ change. AreFew change.steps) changes
unfolding changes_of
few_in elements changes e =
    all_answered (λ change. AreFew change.steps) (λ (p : ℕ × Data). change_at (take p.0 elements) p.1) (enumerate_from 0 elements) changes
    (λ p change is. few_at (take p.0 elements) p.1 change is) e

-- ---- the whole plan

-- no more changes than a plan may have, each of two steps at most
record IsSmall (changes : List ResourceChange) : Type 0 where
  few_changes : length changes ≤ max_changes
  few_steps : AllByRecursion (λ change. AreFew change.steps) changes

counted_in : (elements : List Data) (changes : List ResourceChange) → changes_of elements ≡ Ok changes → length changes ≡ length elements
unfolding changes_of
counted_in elements changes e =
    as_many (λ (p : ℕ × Data). change_at (take p.0 elements) p.1) (enumerate_from 0 elements) changes e ∙ length-enumerate_from 0 elements

small_read : (bytes : List ℕ) (plan : SavedPlan) → plan_of bytes ≡ Ok plan → IsSmall plan.changes
unfolding plan_of plan_of_tree
small_read bytes plan e =
    let sized = guard_ok (ltb max_bytes (length bytes)) TooLarge _ plan e in
    let parsed = bind_ok (or_refuse NotJson (tree_of bytes)) plan_of_tree plan sized.1 in
    let top = bind_ok (or_refuse NotAPlan (header_of parsed.0)) _ plan parsed.2 in
    let elements = top.0.elements in
    let few = guard_ok (ltb max_changes (items_len elements)) TooMany _ plan top.2 in
    let listed = bind_ok (changes_of (list_of elements)) _ plan few.1 in
    let most = ltb-false max_changes (items_len elements) few.0 in
    let count = counted_in (list_of elements) listed.0 listed.1 in
    let items = items_len-list_of elements in
    subst (λ (p : SavedPlan). IsSmall p.changes) (ok_is _ plan listed.2) (record {
      few_changes = omega arith;
      few_steps = few_in (list_of elements) listed.0 listed.1;
    })

-- the steps of the change that stands at a number, where one does
abbrev pub kinds_at : List ResourceChange → ℕ → List StepKind
kinds_at changes c = option_map_or (λ (change : ResourceChange). change.steps) (slice_get changes c) []

few_kinds : (changes : List ResourceChange) (c : ℕ) → AllByRecursion (λ change. AreFew change.steps) changes → AreFew (kinds_at changes c)
few_kinds [] zero all = omega arith
few_kinds [] (suc c) all = omega arith
few_kinds (change ∷ changes) zero all = all.0
few_kinds (change ∷ changes) (suc c) all = few_kinds changes c all.1

pub few_steps_read : (bytes : List ℕ) (plan : SavedPlan) → plan_of bytes ≡ Ok plan → (c : ℕ) → length (kinds_at plan.changes c) ≤ 2
few_steps_read bytes plan e c = few_kinds plan.changes c (small_read bytes plan e).few_steps

pub few_changes_read : (bytes : List ℕ) (plan : SavedPlan) → plan_of bytes ≡ Ok plan → length plan.changes ≤ max_changes
few_changes_read bytes plan e = (small_read bytes plan e).few_changes
