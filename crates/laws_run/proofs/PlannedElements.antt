-- In a plan that was read, an element is planned unless its actions are `["no-op"]`.
use Rattle.std.proofs.Common.{◌≡◌, ℕ, suc, ◌+◌, List, [], ◌∷◌, ◌++◌, append-nil, append_assoc, codes, cond, length, map, nat_eq, not, Bool, true, false, Option, Some, None, Ok, Err, refl, sym, ap, ap₂, ◌∙◌, subst, ⊎_elim, arith}
use Rattle.std.specs.Prelude.{◌&&◌, count_by, option_and_then, slice_get}
use Rattle.std.specs.List.{enumerate_from, list_any, starts_with}
use Rattle.std.specs.Option.{option_map_or}
use Rattle.std.specs.Str.{bytes_eq, is_utf8}
use Rattle.std.proofs.lemmas.Bool.{cases_Bool}
use Rattle.std.proofs.lemmas.List.Sums.{length-filter, sum_by-cons}
use Rattle.std.proofs.lemmas.Option.{cond_some, same_Some}
use Rattle.std.proofs.lemmas.Slice.Eq.{bytes_eq-Decides}
use Rattle.serde_json.specs.Data.{Data, Items, no_items, item}
use Rattle.serde_json.specs.Find.{as_array, as_str}
use Rattle.serde_json.specs.Read.{of_json}
use Rattle.apply_json.specs.Tree.{◌>>=◌, is_word, items_or_empty, list_of, member_of, non_empty_text_of, text_of, text_or, tree_of}
use Rattle.apply_model.specs.declared.plan.step_kind.StepKind.{StepKind}
use Rattle.apply_model.specs.declared.plan.step_kind.StepKind.TheVariants.{Create, Update, Delete, Read}
use Rattle.apply_model.specs.Plan.Address.{relative_address}
use Rattle.apply_model.specs.Plan.ResourceChange.{ResourceChange}
use Rattle.apply_model.specs.Plan.SavedPlan.{SavedPlan}
use Rattle.apply_plan.specs.declared.plan.plan_error.PlanError.TheVariants.{BadChange, BadActions, BadAddress, Duplicate}
use Rattle.apply_plan.specs.ListReading.{made_after}
use Rattle.apply_plan.specs.Plan.Element.{Element, element_of, key_of, mode_named, planned_change_of, prior_id_of}
use Rattle.apply_plan.specs.Plan.Header.{Header, header_of}
use Rattle.apply_plan.specs.Plan.NextChange.{change_after}
use Rattle.apply_resolve.specs.ObjectName.{is_same_object}
use Rattle.apply_plan.specs.Plan.SavedPlan.{change_of, plan_of, planned_at}
use Rattle.apply_plan.specs.Plan.Steps.{steps_alone, steps_of_actions, steps_together}
use Rattle.apply_plan.specs.Results.{or_refuse}
use Rattle.apply_plan.proofs.Results.{bind_ok, guard_ok, ok_is, or_refuse_ok}
use Rattle.apply_model.specs.declared.details.change_details.ChangeDetails.{ChangeDetails}
use Rattle.apply_plan_terraform.specs.Changes.{elements_of}
use Rattle.apply_plan_terraform.specs.Details.{actions_in, element_details, forgets_in, is_forgetting}
use Rattle.apply_plan_terraform.specs.ReadDetails.{DetailsOfPlan, details_of}
use Rattle.apply_plan_terraform.specs.Texts.{json_of}
use Rattle.laws_run.specs.PlannedChanges.{AllButNoOpsArePlanned, is_no_op, is_planned, is_planned_at, states_no_op}
use Rattle.laws_run.proofs.AcceptedPlans.{read_from}

-- the step that a value was made in
step : {A B : Type 0} (o : Option A) (f : A → Option B) (y : B) → (o >>= f) ≡ Some y → (x : A) × (o ≡ Some x) × (f x ≡ Some y)
step None f y e = absurd cc
step (Some x) f y e = (x, refl, e)

-- ---- a list of actions

-- what is one word is no other
other_word : (action : Data) → is_word (codes "no-op") action ≡ true → is_word (codes "forget") action ≡ false
other_word action is = of_text (as_str action) is
  where
    of_text : (o : Option (List ℕ)) → option_map_or (λ text. bytes_eq text (codes "no-op")) o false ≡ true → option_map_or (λ text. bytes_eq text (codes "forget")) o false ≡ false
    of_text None is = refl
    of_text (Some text) is = ap (λ (t : List ℕ). bytes_eq t (codes "forget")) ((bytes_eq-Decides text (codes "no-op")).0 is)

abbrev PlansUnlessNoOp : Items → List StepKind → Type 0
PlansUnlessNoOp actions steps = is_planned steps (is_forgetting actions) ≡ not (is_no_op actions)

alone : (action : Data) (steps : List StepKind) → steps_alone action ≡ Some steps → PlansUnlessNoOp (item action no_items) steps
alone action steps e =
    of_tests (is_word (codes "no-op") action) (is_word (codes "create") action) (is_word (codes "read") action) (is_word (codes "update") action) (is_word (codes "delete") action) (is_word (codes "forget") action)
    (other_word action) e
  where
    of_tests : (no_op create read update delete forget : Bool) → (no_op ≡ true → forget ≡ false)
        → cond no_op (Some []) (cond create (Some (Create ∷ [])) (cond read (Some (Read ∷ [])) (cond update (Some (Update ∷ [])) (cond delete (Some (Delete ∷ [])) (cond forget (Some []) None))))) ≡ Some steps
        → is_planned steps forget ≡ not no_op
    of_tests true create read update delete forget other e = subst (λ (s : List StepKind). is_planned s forget ≡ false) (same_Some [] steps e) (other refl)
    of_tests false true read update delete forget other e = subst (λ (s : List StepKind). is_planned s forget ≡ true) (same_Some (Create ∷ []) steps e) refl
    of_tests false false true update delete forget other e = subst (λ (s : List StepKind). is_planned s forget ≡ true) (same_Some (Read ∷ []) steps e) refl
    of_tests false false false true delete forget other e = subst (λ (s : List StepKind). is_planned s forget ≡ true) (same_Some (Update ∷ []) steps e) refl
    of_tests false false false false true forget other e = subst (λ (s : List StepKind). is_planned s forget ≡ true) (same_Some (Delete ∷ []) steps e) refl
    of_tests false false false false false true other e = subst (λ (s : List StepKind). is_planned s true ≡ true) (same_Some [] steps e) refl
    of_tests false false false false false false other e = absurd cc

together : (first second : Data) (steps : List StepKind) → steps_together first second ≡ Some steps → PlansUnlessNoOp (item first (item second no_items)) steps
together first second steps e = of_tests (is_word (codes "delete") first && is_word (codes "create") second) (is_word (codes "create") first && is_word (codes "delete") second) e
  where
    of_tests : (one other : Bool) → cond one (Some (Delete ∷ Create ∷ [])) (cond other (Some (Create ∷ Delete ∷ [])) None) ≡ Some steps → is_planned steps false ≡ true
    of_tests true other e = subst (λ (s : List StepKind). is_planned s false ≡ true) (same_Some (Delete ∷ Create ∷ []) steps e) refl
    of_tests false true e = subst (λ (s : List StepKind). is_planned s false ≡ true) (same_Some (Create ∷ Delete ∷ []) steps e) refl
    of_tests false false e = absurd cc

by_actions : (actions : Items) (steps : List StepKind) → steps_of_actions actions ≡ Some steps → PlansUnlessNoOp actions steps
by_actions no_items steps e = absurd cc
by_actions (item action no_items) steps e = alone action steps e
by_actions (item first (item second no_items)) steps e = together first second steps e
by_actions (item first (item second (item third others))) steps e = absurd cc

-- ---- an element

change_stated : (d : Data) (planned : Items × Option (List ℕ)) → planned_change_of d ≡ Some planned → actions_in (member_of (codes "change") d) ≡ Some planned.0
change_stated d planned e =
    let change = step (member_of (codes "change") d) _ planned e in
    let list = step (member_of (codes "actions") change.0) _ planned change.2 in
    let actions = step (as_array list.0) _ planned list.2 in
    ap actions_in change.1
    ∙ ap (λ (o : Option Data). o >>= as_array) list.1
    ∙ actions.1
    ∙ ap (λ (p : Items × Option (List ℕ)). some p.0) (same_Some (actions.0, prior_id_of change.0) planned actions.2)
  where
    some : Items → Option Items
    some ds = Some ds

pub element_stated : (d : Data) (e : Element) → element_of d ≡ Some e → actions_in (member_of (codes "change") d) ≡ Some e.actions
unfolding element_of
element_stated d e is =
    let address = step (text_of (codes "address") d) _ e is in
    let word = step (text_of (codes "mode") d) _ e address.2 in
    let mode = step (mode_named word.0) _ e word.2 in
    let kind_name = step (non_empty_text_of (codes "type") d) _ e mode.2 in
    let name = step (non_empty_text_of (codes "name") d) _ e kind_name.2 in
    let module_address = step (text_or [] (member_of (codes "module_address") d)) _ e name.2 in
    let key = step (key_of (member_of (codes "index") d)) _ e module_address.2 in
    let deposed = step (text_or [] (member_of (codes "deposed") d)) _ e key.2 in
    let planned = step (planned_change_of d) _ e deposed.2 in
    change_stated d planned.0 planned.1 ∙ ap (λ (x : Element). some x.actions) (same_Some _ e planned.2)
  where
    some : Items → Option Items
    some ds = Some ds

abbrev IsAsStated : Data → ResourceChange → Type 0
IsAsStated d change = is_planned change.steps (forgets_in (member_of (codes "change") d)) ≡ not (states_no_op d)

one_as_stated : (earlier : List ResourceChange) (d : Data) (change : ResourceChange) → change_after earlier d ≡ Ok change → IsAsStated d change
unfolding change_after planned_at
one_as_stated earlier d change e =
    let n = length earlier in
    let planned = bind_ok (planned_at n d) (λ c. cond (list_any (is_same_object c) earlier) (Err (Duplicate n)) (Ok c)) change e in
    let new = guard_ok (list_any (is_same_object planned.0) earlier) (Duplicate n) (Ok planned.0) change planned.2 in
    let formed = bind_ok (or_refuse (BadChange n) (element_of d)) _ planned.0 planned.1 in
    let stepped = bind_ok (or_refuse (BadActions n) (steps_of_actions formed.0.actions)) _ planned.0 formed.2 in
    let placed = bind_ok (or_refuse (BadAddress n) (relative_address formed.0.module_address formed.0.address)) _ planned.0 stepped.2 in
    let actions = element_stated d formed.0 (or_refuse_ok (BadChange n) (element_of d) formed.0 formed.1) in
    let steps = or_refuse_ok (BadActions n) (steps_of_actions formed.0.actions) stepped.0 stepped.1 in
    subst (IsAsStated d) (ok_is planned.0 change new.1)
    (subst (IsAsStated d) (ok_is (change_of formed.0 stepped.0) planned.0 placed.2)
    (ap (λ (o : Option Items). is_planned stepped.0 (option_map_or is_forgetting o false)) actions
    ∙ by_actions formed.0.actions stepped.0 steps
    ∙ sym (ap (λ (o : Option Items). not (option_map_or is_no_op o false)) actions)))

-- ---- all elements

abbrev AreAsStated : Items → List ResourceChange → Type 0
AreAsStated no_items [] = Unit {0}
AreAsStated no_items (change ∷ changes) = ⊥
AreAsStated (item d ds) [] = ⊥
AreAsStated (item d ds) (change ∷ changes) = IsAsStated d change × AreAsStated ds changes

-- the changes of these elements come after the changes before them
all_as_stated : (elements : Items) (earlier all : List ResourceChange) → made_after change_after earlier elements ≡ Ok all
    → (changes : List ResourceChange) × (all ≡ earlier ++ changes) × AreAsStated elements changes
unfolding made_after
all_as_stated no_items earlier all e = ([], sym (ok_is earlier all e) ∙ sym (append-nil earlier), tt)
all_as_stated (item d ds) earlier all e =
    let first = bind_ok (change_after earlier d) (λ change. made_after change_after (earlier ++ change ∷ []) ds) all e in
    let rest = all_as_stated ds (earlier ++ first.0 ∷ []) all first.2 in
    (first.0 ∷ rest.0, rest.1 ∙ append_assoc earlier (first.0 ∷ []) rest.0, (one_as_stated earlier d first.0 first.1, rest.2))

abbrev details_in : Items → List ChangeDetails
details_in elements = map element_details (list_of elements)

as_many : (elements : Items) (changes : List ResourceChange) → AreAsStated elements changes → length (details_in elements) ≡ length changes
as_many no_items [] all = refl
as_many no_items (change ∷ changes) all = absurd all
as_many (item d ds) [] all = absurd all
as_many (item d ds) (change ∷ changes) all = ap suc (as_many ds changes all.1)

-- from change n on, with the details of the elements from there on
one_by_one : (elements : Items) (changes : List ResourceChange) (n : ℕ) (details : List ChangeDetails) → AreAsStated elements changes
    → ((i : ℕ) → slice_get details (n + i) ≡ slice_get (details_in elements) i)
    → map (is_planned_at details) (enumerate_from n changes) ≡ map (λ element. not (states_no_op element)) (list_of elements)
one_by_one no_items [] n details all are = refl
one_by_one no_items (change ∷ changes) n details all are = absurd all
one_by_one (item d ds) [] n details all are = absurd all
one_by_one (item d ds) (change ∷ changes) n details all are =
    let here : n ≡ n + 0 = omega arith in
    let located : slice_get details n ≡ Some (element_details d) = ap (λ (k : ℕ). slice_get details k) here ∙ are 0 in
    ap₂ (λ (b : Bool) (l : List Bool). b ∷ l)
    (ap (λ (o : Option ChangeDetails). option_map_or (λ (x : ChangeDetails). is_planned change.steps x.forgets) o false) located ∙ all.0)
    (one_by_one ds changes (n + 1) details all.1 (λ i. let next : n + 1 + i ≡ n + suc i = omega arith in ap (λ (k : ℕ). slice_get details k) next ∙ are (suc i)))

counted : {X : Type 0} (p : X → Bool) (xs : List X) → count_by p xs ≡ count_by (λ b. b) (map p xs)
counted p [] = refl
counted p (x ∷ xs) =
    let here = sum_by-cons (λ x. cond (p x) 1 0) x xs in
    let there = sum_by-cons (λ (b : Bool). cond b 1 0) (p x) (map p xs) in
    let rest = counted p xs in
    omega arith

-- ---- the bytes of a plan

-- the elements at the top level
pub elements_are : (d : Data) (header : Header) → header_of d ≡ Some header → elements_of d ≡ list_of header.elements
unfolding header_of
elements_are d header e =
    let format = step (text_of (codes "format_version") d) _ header e in
    let version = step (text_or (codes "0.0.0") (member_of (codes "terraform_version") d)) _ header format.2 in
    let elements = step (items_or_empty (member_of (codes "resource_changes") d)) _ header version.2 in
    let made = cond_some (starts_with nat_eq format.0 (codes "1.")) (record { version = version.0; elements = elements.0 }) header elements.2 in
    of_member (member_of (codes "resource_changes") d) elements.0 elements.1 ∙ ap (λ (h : Header). list_of h.elements) made.1
  where
    of_member : (located : Option Data) (elements : Items) → items_or_empty located ≡ Some elements → option_map_or list_of (located >>= as_array) [] ≡ list_of elements
    of_member None elements e = ap list_of (same_Some no_items elements e)
    of_member (Some value) elements e = ap (λ (o : Option Items). option_map_or list_of o []) e

-- bytes have the tree of their value
pub tree_is : (bytes : List ℕ) → tree_of bytes ≡ option_and_then of_json (json_of bytes)
tree_is bytes = ⊎_elim (λ (yes : is_utf8 bytes ≡ true). rw yes refl) (λ (no : is_utf8 bytes ≡ false). rw no refl) (cases_Bool (is_utf8 bytes))

-- the details are read of the elements of the tree
pub details_are : (bytes : List ℕ) (tree : Data) (details : DetailsOfPlan) → tree_of bytes ≡ Some tree → details_of bytes ≡ Some details → details.changes ≡ map element_details (elements_of tree)
details_are bytes tree details is e =
    let value = step (json_of bytes) _ details e in
    let whole = step (of_json value.0) _ details value.2 in
    let same : whole.0 ≡ tree = same_Some whole.0 tree (sym whole.1 ∙ sym (ap (option_and_then of_json) value.1) ∙ sym (tree_is bytes) ∙ is) in
    sym (ap (λ (x : DetailsOfPlan). x.changes) (same_Some _ details whole.2)) ∙ ap (λ (d : Data). map element_details (elements_of d)) same

pub all_but_no_ops : (bytes : List ℕ) (plan : SavedPlan) (details : DetailsOfPlan) → plan_of bytes ≡ Ok plan → details_of bytes ≡ Some details → AllButNoOpsArePlanned bytes plan details.changes
all_but_no_ops bytes plan details e stated =
    let read = read_from bytes plan e in
    let elements = read.header.elements in
    let made = all_as_stated elements [] plan.changes read.made in
    let all : AreAsStated elements plan.changes = subst (AreAsStated elements) (sym made.1) made.2 in
    let listed = elements_are read.tree read.header read.header_is in
    let details_is : details.changes ≡ details_in elements = details_are bytes read.tree details read.tree_is stated ∙ ap (map element_details) listed in
    let each = one_by_one elements plan.changes 0 details.changes all (λ i. let same : 0 + i ≡ i = omega arith in ap (λ (k : ℕ). slice_get details.changes k) same ∙ ap (λ (l : List ChangeDetails). slice_get l i) details_is)
    ∙ sym (ap (map (λ element. not (states_no_op element))) listed) in
    record {
      tree = read.tree;
      tree_is = read.tree_is;
      as_many = ap length details_is ∙ as_many elements plan.changes all;
      one_by_one = each;
      count = length-filter (is_planned_at details.changes) (enumerate_from 0 plan.changes)
          ∙ counted (is_planned_at details.changes) (enumerate_from 0 plan.changes)
          ∙ ap (count_by (λ b. b)) each
          ∙ sym (counted (λ element. not (states_no_op element)) (elements_of read.tree));
    }
