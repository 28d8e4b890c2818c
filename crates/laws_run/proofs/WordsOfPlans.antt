-- The line of each planned change has the word for the actions of the plan.
use Rattle.std.proofs.Common.{◌≡◌, ℕ, suc, ◌+◌, List, [], ◌∷◌, ◌++◌, append-nil, append_assoc, codes, cond, length, map, Bool, true, false, Option, Some, None, Ok, Err, refl, sym, ap, ◌∙◌, subst, arith}
use Rattle.std.specs.Prelude.{◌&&◌, MatchOption, slice_get}
use Rattle.std.specs.List.{enumerate_from, list_any}
use Rattle.std.specs.Option.{option_map_or}
use Rattle.std.specs.Str.{bytes_eq}
use Rattle.std.proofs.lemmas.Option.{same_Some}
use Rattle.std.proofs.lemmas.Slice.Eq.{bytes_eq-Decides}
use Rattle.serde_json.specs.Data.{Data, Items, no_items, item}
use Rattle.serde_json.specs.Find.{as_str}
use Rattle.apply_json.specs.Tree.{◌>>=◌, is_word, list_of, member_of, non_empty_text_of, text_of, text_or, tree_of}
use Rattle.apply_model.specs.declared.details.change_details.ChangeDetails.{ChangeDetails}
use Rattle.apply_model.specs.declared.details.previous_resource.PreviousResource.{PreviousResource}
use Rattle.apply_model.specs.declared.plan.step_kind.StepKind.{StepKind}
use Rattle.apply_model.specs.declared.plan.step_kind.StepKind.TheVariants.{Create, Update, Delete, Read}
use Rattle.apply_model.specs.Plan.Address.{relative_address}
use Rattle.apply_model.specs.Plan.ResourceChange.{ResourceChange}
use Rattle.apply_model.specs.Plan.SavedPlan.{SavedPlan}
use Rattle.apply_resolve.specs.ObjectName.{is_same_object}
use Rattle.apply_plan.specs.declared.plan.plan_error.PlanError.TheVariants.{BadChange, BadActions, BadAddress, Duplicate}
use Rattle.apply_plan.specs.ListReading.{made_after}
use Rattle.apply_plan.specs.Plan.Element.{Element, element_of, key_of, mode_named, planned_change_of}
use Rattle.apply_plan.specs.Plan.NextChange.{change_after}
use Rattle.apply_plan.specs.Plan.SavedPlan.{change_of, plan_of, planned_at}
use Rattle.apply_plan.specs.Plan.Steps.{steps_alone, steps_of_actions, steps_together}
use Rattle.apply_plan.specs.Results.{or_refuse}
use Rattle.apply_plan.proofs.Results.{bind_ok, guard_ok, ok_is, or_refuse_ok}
use Rattle.apply_text_terraform.specs.Details.{planned_word}
use Rattle.apply_text_terraform.specs.Lines.{message_line, planned_text}
use Rattle.apply_text_terraform.specs.Message.{planned_message}
use Rattle.apply_text_terraform.specs.Objects.{change_object}
use Rattle.apply_plan_terraform.specs.Changes.{elements_of}
use Rattle.apply_plan_terraform.specs.Details.{element_details, forgets_in, is_forgetting}
use Rattle.apply_plan_terraform.specs.ReadDetails.{DetailsOfPlan, details_of}
use Rattle.apply_writer.specs.Stream.Terraform as stream
use Rattle.laws_run.specs.PlannedWords.{HaveLinesInTheirWords, HasLineInItsWord, NamesPlannedAction, word_for, word_of}
use Rattle.laws_run.proofs.AcceptedPlans.{read_from}
use Rattle.laws_run.proofs.LastMembers.{step}
use Rattle.laws_run.proofs.PlannedElements.{details_are, element_stated, elements_are}

abbrev some : {X : Type 0} → X → Option X
some x = Some x

-- ---- a list of actions

-- a word is the text itself
as_word : (word : List ℕ) (action : Data) → is_word word action ≡ true → as_str action ≡ Some word
as_word word action is = of_text (as_str action) is
  where
    of_text : (o : Option (List ℕ)) → option_map_or (λ text. bytes_eq text word) o false ≡ true → o ≡ Some word
    of_text None is = absurd cc
    of_text (Some text) is = ap some ((bytes_eq-Decides text word).0 is)

-- an action that is one word is no other word
no_other : (word other : List ℕ) (action : Data) → bytes_eq word other ≡ false → is_word word action ≡ true → is_word other action ≡ false
no_other word other action apart is = ap (λ (o : Option (List ℕ)). option_map_or (λ text. bytes_eq text other) o false) (as_word word action is) ∙ apart

abbrev HasWord : Items → List StepKind → Type 0
HasWord actions steps = planned_word steps (is_forgetting actions) ≡ word_for actions

alone : (action : Data) (steps : List StepKind) → steps_alone action ≡ Some steps → HasWord (item action no_items) steps
alone action steps e =
    of_tests (is_word (codes "no-op") action) (is_word (codes "create") action) (is_word (codes "read") action) (is_word (codes "update") action) (is_word (codes "delete") action) (is_word (codes "forget") action) (as_str action)
    (no_other (codes "no-op") (codes "forget") action refl)
    (λ is. (no_other (codes "create") (codes "forget") action refl is, as_word (codes "create") action is))
    (λ is. (no_other (codes "read") (codes "forget") action refl is, as_word (codes "read") action is))
    (λ is. (no_other (codes "update") (codes "forget") action refl is, as_word (codes "update") action is))
    (λ is. (no_other (codes "delete") (codes "forget") action refl is, as_word (codes "delete") action is))
    e
  where
    -- one step, whose word is the action itself
    one : (kind : StepKind) (word : List ℕ) (forget : Bool) (stated : Option (List ℕ)) → planned_word (kind ∷ []) forget ≡ Some word → (forget ≡ false) × (stated ≡ Some word) → Some (kind ∷ []) ≡ some steps
        → planned_word steps forget ≡ cond forget (Some (codes "remove")) stated
    one kind word forget stated written is e =
        ap (λ (s : List StepKind). planned_word s forget) (sym (same_Some (kind ∷ []) steps e)) ∙ written ∙ sym is.1 ∙ ap (λ (b : Bool). cond b (Some (codes "remove")) stated) (sym is.0)

    of_tests : (no_op create read update delete forget : Bool) (stated : Option (List ℕ)) → (no_op ≡ true → forget ≡ false)
        → (create ≡ true → (forget ≡ false) × (stated ≡ Some (codes "create")))
        → (read ≡ true → (forget ≡ false) × (stated ≡ Some (codes "read")))
        → (update ≡ true → (forget ≡ false) × (stated ≡ Some (codes "update")))
        → (delete ≡ true → (forget ≡ false) × (stated ≡ Some (codes "delete")))
        → cond no_op (Some []) (cond create (Some (Create ∷ [])) (cond read (Some (Read ∷ [])) (cond update (Some (Update ∷ [])) (cond delete (Some (Delete ∷ [])) (cond forget (Some []) None))))) ≡ Some steps
        → planned_word steps forget ≡ cond no_op None (cond forget (Some (codes "remove")) stated)
    of_tests true create read update delete forget stated n c r u d e =
        ap (λ (s : List StepKind). planned_word s forget) (sym (same_Some [] steps e)) ∙ ap (λ (b : Bool). cond b (Some (codes "remove")) None) (n refl)
    of_tests false true read update delete forget stated n c r u d e = one Create (codes "create") forget stated refl (c refl) e
    of_tests false false true update delete forget stated n c r u d e = one Read (codes "read") forget stated refl (r refl) e
    of_tests false false false true delete forget stated n c r u d e = one Update (codes "update") forget stated refl (u refl) e
    of_tests false false false false true forget stated n c r u d e = one Delete (codes "delete") forget stated refl (d refl) e
    of_tests false false false false false true stated n c r u d e = ap (λ (s : List StepKind). planned_word s true) (sym (same_Some [] steps e))
    of_tests false false false false false false stated n c r u d e = absurd cc

together : (first second : Data) (steps : List StepKind) → steps_together first second ≡ Some steps → HasWord (item first (item second no_items)) steps
together first second steps e = of_tests (is_word (codes "delete") first && is_word (codes "create") second) (is_word (codes "create") first && is_word (codes "delete") second) e
  where
    of_tests : (one other : Bool) → cond one (Some (Delete ∷ Create ∷ [])) (cond other (Some (Create ∷ Delete ∷ [])) None) ≡ Some steps → planned_word steps false ≡ Some (codes "replace")
    of_tests true other e = ap (λ (s : List StepKind). planned_word s false) (sym (same_Some (Delete ∷ Create ∷ []) steps e))
    of_tests false true e = ap (λ (s : List StepKind). planned_word s false) (sym (same_Some (Create ∷ Delete ∷ []) steps e))
    of_tests false false e = absurd cc

by_actions : (actions : Items) (steps : List StepKind) → steps_of_actions actions ≡ Some steps → HasWord actions steps
by_actions no_items steps e = absurd cc
by_actions (item action no_items) steps e = alone action steps e
by_actions (item first (item second no_items)) steps e = together first second steps e
by_actions (item first (item second (item third others))) steps e = absurd cc

-- ---- an element

address_stated : (d : Data) (e : Element) → element_of d ≡ Some e → text_of (codes "address") d ≡ Some e.address
unfolding element_of
address_stated d e is =
    let address = step (text_of (codes "address") d) _ e is in
    let word = step (text_of (codes "mode") d) _ e address.2 in
    let mode = step (mode_named word.0) _ e word.2 in
    let kind_name = step (non_empty_text_of (codes "type") d) _ e mode.2 in
    let name = step (non_empty_text_of (codes "name") d) _ e kind_name.2 in
    let module_address = step (text_or [] (member_of (codes "module_address") d)) _ e name.2 in
    let key = step (key_of (member_of (codes "index") d)) _ e module_address.2 in
    let deposed = step (text_or [] (member_of (codes "deposed") d)) _ e key.2 in
    let planned = step (planned_change_of d) _ e deposed.2 in
    address.1 ∙ ap (λ (x : Element). some x.address) (same_Some _ e planned.2)

-- a change has the word and the address of its element
record IsAsStated (d : Data) (change : ResourceChange) : Type 0 where
  word : planned_word change.steps (forgets_in (member_of (codes "change") d)) ≡ word_of d
  address : text_of (codes "address") d ≡ Some change.address

one_as_stated : (earlier : List ResourceChange) (d : Data) (change : ResourceChange) → change_after earlier d ≡ Ok change → IsAsStated d change
unfolding change_after planned_at
one_as_stated earlier d change e =
    let n = length earlier in
    let planned = bind_ok (planned_at n d) (λ c. cond (list_any (is_same_object c) earlier) (Err (Duplicate n)) (Ok c)) change e in
    let new = guard_ok (list_any (is_same_object planned.0) earlier) (Duplicate n) (Ok planned.0) change planned.2 in
    let formed = bind_ok (or_refuse (BadChange n) (element_of d)) _ planned.0 planned.1 in
    let stepped = bind_ok (or_refuse (BadActions n) (steps_of_actions formed.0.actions)) _ planned.0 formed.2 in
    let placed = bind_ok (or_refuse (BadAddress n) (relative_address formed.0.module_address formed.0.address)) _ planned.0 stepped.2 in
    let element = or_refuse_ok (BadChange n) (element_of d) formed.0 formed.1 in
    let actions = element_stated d formed.0 element in
    let steps = or_refuse_ok (BadActions n) (steps_of_actions formed.0.actions) stepped.0 stepped.1 in
    subst (IsAsStated d) (ok_is planned.0 change new.1)
    (subst (IsAsStated d) (ok_is (change_of formed.0 stepped.0) planned.0 placed.2)
    (record {
      word = ap (λ (o : Option Items). planned_word stepped.0 (option_map_or is_forgetting o false)) actions
          ∙ by_actions formed.0.actions stepped.0 steps
          ∙ sym (ap (λ (o : Option Items). o >>= word_for) actions);
      address = address_stated d formed.0 element;
    }))

-- ---- all elements

abbrev AreAsStated : Items → List ResourceChange → Type 0
AreAsStated no_items [] = Unit {0}
AreAsStated no_items (change ∷ changes) = ⊥
AreAsStated (item d ds) [] = ⊥
AreAsStated (item d ds) (change ∷ changes) = IsAsStated d change × AreAsStated ds changes

all_as_stated : (elements : Items) (earlier all : List ResourceChange) → made_after change_after earlier elements ≡ Ok all
    → (changes : List ResourceChange) × (all ≡ earlier ++ changes) × AreAsStated elements changes
unfolding made_after
all_as_stated no_items earlier all e = ([], sym (ok_is earlier all e) ∙ sym (append-nil earlier), tt)
all_as_stated (item d ds) earlier all e =
    let first = bind_ok (change_after earlier d) (λ change. made_after change_after (earlier ++ change ∷ []) ds) all e in
    let rest = all_as_stated ds (earlier ++ first.0 ∷ []) all first.2 in
    (first.0 ∷ rest.0, rest.1 ∙ append_assoc earlier (first.0 ∷ []) rest.0, (one_as_stated earlier d first.0 first.1, rest.2))

-- ---- the line of an element

action_stated : (change : ResourceChange) (word : List ℕ) (details : ChangeDetails) → text_of (codes "action") (change_object change word details) ≡ Some word
unfolding change_object
action_stated change word details = of_previous details.previous
  where
    of_previous : (o : Option PreviousResource) → text_of (codes "action") (change_object change word (record details { previous = o })) ≡ Some word
    of_previous None = refl
    of_previous (Some previous) = refl

abbrev details_in : Items → List ChangeDetails
details_in elements = map element_details (list_of elements)

module _ (start : ℕ) where
  line_in_word : (change : ResourceChange) (details : ChangeDetails) (line : List ℕ) (word : Option (List ℕ))
      → line ≡ option_map_or (λ word. message_line start (planned_message change word details)) word []
      → MatchOption word (line ≡ []) (λ word. NamesPlannedAction start change.address word line)
  line_in_word change details line None is = is
  line_in_word change details line (Some word) is = record {
    message = planned_message change word details;
    line_is = is;
    type_is = refl;
    text_is = refl;
    name_is = refl;
    action_is = action_stated change word details;
  }

  element_told : (d : Data) (change : ResourceChange) (line : List ℕ) → IsAsStated d change → line ≡ planned_text start change (element_details d) → HasLineInItsWord start d line
  element_told d change line stated is = record {
    address = change.address;
    address_is = stated.address;
    line_is_in_word = line_in_word change (element_details d) line (word_of d)
        (is ∙ ap (λ (o : Option (List ℕ)). option_map_or (λ word. message_line start (planned_message change word (element_details d))) o []) stated.word);
  }

  -- from change n on, with the details of the elements from there on
  elements_told : (elements : Items) (changes : List ResourceChange) (n : ℕ) (details : List ChangeDetails) → AreAsStated elements changes
      → ((i : ℕ) → slice_get details (n + i) ≡ slice_get (details_in elements) i)
      → HaveLinesInTheirWords start (list_of elements) (map (stream.planned_at start details) (enumerate_from n changes))
  elements_told no_items [] n details all are = tt
  elements_told no_items (change ∷ changes) n details all are = absurd all
  elements_told (item d ds) [] n details all are = absurd all
  elements_told (item d ds) (change ∷ changes) n details all are =
      let here : n ≡ n + 0 = omega arith in
      let located : slice_get details n ≡ Some (element_details d) = ap (λ (k : ℕ). slice_get details k) here ∙ are 0 in (
        element_told d change (stream.planned_at start details (n, change)) all.0 (ap (λ (o : Option ChangeDetails). option_map_or (planned_text start change) o []) located),
        elements_told ds changes (n + 1) details all.1 (λ i. let next : n + 1 + i ≡ n + suc i = omega arith in ap (λ (k : ℕ). slice_get details k) next ∙ are (suc i)),
      )

-- ---- the bytes of a plan

pub all_in_words : (bytes : List ℕ) (plan : SavedPlan) (details : DetailsOfPlan) (start : ℕ) → plan_of bytes ≡ Ok plan → details_of bytes ≡ Some details
    → (tree : Data) × (tree_of bytes ≡ Some tree) × HaveLinesInTheirWords start (elements_of tree) (map (stream.planned_at start details.changes) (enumerate_from 0 plan.changes))
all_in_words bytes plan details start e stated =
    let read = read_from bytes plan e in
    let elements = read.header.elements in
    let made = all_as_stated elements [] plan.changes read.made in
    let all : AreAsStated elements plan.changes = subst (AreAsStated elements) (sym made.1) made.2 in
    let listed = elements_are read.tree read.header read.header_is in
    let details_is : details.changes ≡ details_in elements = details_are bytes read.tree details read.tree_is stated ∙ ap (map element_details) listed in
    let written = elements_told start elements plan.changes 0 details.changes all
    (λ i. let same : 0 + i ≡ i = omega arith in ap (λ (k : ℕ). slice_get details.changes k) same ∙ ap (λ (l : List ChangeDetails). slice_get l i) details_is) in
    (read.tree, read.tree_is, subst (λ (ds : List Data). HaveLinesInTheirWords start ds (map (stream.planned_at start details.changes) (enumerate_from 0 plan.changes))) (sym listed) written)
