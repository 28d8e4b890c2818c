-- The texts of what a stream tells while a plan is made are UTF-8, by the plan and the script that
-- were read.
use Rattle.std.proofs.Common.{◌≡◌, ℕ, ◌<◌, ◌^◌, List, [], ◌∷◌, IsUtf8, codes, cond, flat_map, fold, length, map, nat_le, nat_lt, Bool, true, false, Option, Some, None, Ok, option_map, refl, ap, slice_get, unwrap_or, arith}
use Rattle.std.specs.Prelude.{◌&&◌, ◌||◌, IfOk, IfSome, is_some}
use Rattle.std.specs.List.{AllByRecursion}
use Rattle.std.specs.Option.{option_map_or, option_or}
use Rattle.std.proofs.lemmas.Bool.{ltb-false, or_parts}
use Rattle.std.proofs.lemmas.Str.{IsUtf8-nil}
use Rattle.serde_json.specs.Data.{Data}
use Rattle.serde_json.specs.Find.{as_array}
use Rattle.apply_address.specs.Parts.{Parts}
use Rattle.apply_address.specs.Reading.{parts_in}
use Rattle.apply_address.proofs.Relative.{relative_stands}
use Rattle.apply_json.specs.Tree as json
use Rattle.apply_json.specs.Tree.{items_or_empty, list_of, member_of, non_empty_text_of, text_or, unless_empty}
use Rattle.apply_model.specs.declared.plan.mode.Mode.{Mode}
use Rattle.apply_model.specs.declared.plan.mode.Mode.TheVariants.{DataSource, Managed}
use Rattle.apply_model.specs.Plan.Address.{relative_address}
use Rattle.apply_model.specs.Script.Limits.{max_seconds}
use Rattle.apply_plan.specs.Results.{or_refuse, unless_refused}
use Rattle.apply_plan.specs.Script.Entry.{Failure, failure_or_none, flag_or_false, is_verbatim_name, number_or_none}
use Rattle.apply_plan.specs.declared.script.planning_error.PlanningError.{PlanningError}
use Rattle.apply_plan.specs.declared.script.planning_error.PlanningError.TheVariants.{TooMany}
use Rattle.apply_plan.specs.declared.script.script_error.ScriptError.{ScriptError}
use Rattle.apply_plan.specs.declared.script.script_error.ScriptError.TheVariants.{BadShape, NotJson, Planning, TooLarge}
use Rattle.apply_plan_terraform.specs.Details.{previous_at, with_parts}
use Rattle.apply_planning.specs.declared.told.Told.{Told}
use Rattle.apply_planning_script.specs.declared.rules.PlanningRules.{PlanningRules}
use Rattle.apply_planning_script.specs.Items.{Item, do_clash, item_of, item_with, object_of_item}
use Rattle.apply_planning_script.specs.Objects.{ObjectName, number_in, object_of}
use Rattle.apply_planning_script.specs.Planning.{ReadItems, and_element, and_element_by, checked, first_fault, is_known, max_items, nothing_read, said_in_option, said_in_tree, said_of, with_item}
use Rattle.apply_planning_script.specs.Rules.{PlannedObjects}
use Rattle.apply_planning_script.specs.Told.{Object, ToldObject, failure_of, id_at_end, id_at_start, is_told, item_about, note_of, object_view, stated_id, told_at, told_by_script, told_if, told_known, told_unknown, told_view, told_with, unknown_with}
use Rattle.apply_prior.specs.declared.prior_object.PriorObject.{PriorObject}
use Rattle.apply_prior.specs.Prior as prior
use Rattle.laws_run.proofs.RelativeAddresses.{relative_joins}
use Rattle.laws_check.specs.ReadBackInForm.{HasNoteTexts, HasPreviousTexts}
use Rattle.laws_check.specs.Texts.{HasChangeTexts}
use Rattle.laws_check.proofs.Given.{any_given, first_of_two, gone_on, held_at, is_answered, is_given, mapped, next_of, refused_or, then_of}
use Rattle.laws_check.proofs.LookUps.{filled_utf8, member_legible, non_empty_utf8, text_or_utf8}
use Rattle.laws_check.proofs.OwnMembers.{AreHeld, IsHeld, IsScriptTree, elements_held, list_held, member_held, script_tree}
use Rattle.laws_check.proofs.PreviousTexts.{previous_has_texts}
use Rattle.laws_check.proofs.ReadBytes.{made_of_verbatim}
use Rattle.laws_check.proofs.ScriptTexts.{MayHaveFailure, some_failure}
use Rattle.laws_check.proofs.SoundObjects.{all_both}
use Rattle.laws_check.proofs.VerbatimDiagnostics.{HasStatedDiagnostic}
use Rattle.laws_command_check.specs.HeadTexts.{HasToldTexts}
use Rattle.laws_command_check.proofs.PriorTexts.{HasObjectTexts, with_relative}

-- ---- an item

record HasItemTexts (item : Item) : Type 0 where
  address : IsUtf8 item.address
  id : IfSome item.id IsUtf8
  failure : MayHaveFailure item.failure
  seconds : item.seconds < 2 ^ 64

of_members : (address : List ℕ) (deposed id : Option (List ℕ)) (seconds : Option ℕ) (is_gone is_skipped : Bool) (failure : Option Failure) → IsUtf8 address → IfSome id IsUtf8 → MayHaveFailure failure
    → IfSome (item_with address deposed id seconds is_gone is_skipped failure) HasItemTexts
of_members address deposed id seconds is_gone is_skipped failure utf8 named why = of_test (do_clash seconds (is_some id) (is_some failure) is_gone is_skipped) refl
  where
    of_test : (b : Bool) → do_clash seconds (is_some id) (is_some failure) is_gone is_skipped ≡ b
        → IfSome (cond b None (Some (record { address = address; deposed = deposed; seconds = unwrap_or seconds 0; id = id; failure = failure; is_gone = is_gone; is_skipped = is_skipped }))) HasItemTexts
    of_test true is = tt
    of_test false is =
        let parts = or_parts (nat_lt max_seconds (unwrap_or seconds 0)) ((is_gone && is_some failure) || (is_skipped && (is_some seconds || (is_some id || (is_some failure || is_gone))))) is in
        let most = ltb-false max_seconds (unwrap_or seconds 0) parts.0 in
        record { address = utf8; id = named; failure = why; seconds = omega arith }

item_texts : (d : Data) → IsHeld d → IfSome (item_of d) HasItemTexts
unfolding item_of
item_texts d h =
    next_of IsUtf8 HasItemTexts (non_empty_text_of (codes "address") d) _ (non_empty_utf8 (codes "address") d h.0)
    (λ address utf8. next_of (λ _. Unit {0}) HasItemTexts (text_or [] (member_of (codes "deposed") d)) _ (any_given (text_or [] (member_of (codes "deposed") d)))
    (λ deposed u. next_of IsUtf8 HasItemTexts (text_or [] (member_of (codes "id") d)) _ (text_or_utf8 [] (member_of (codes "id") d) IsUtf8-nil (member_legible (codes "id") d h.0))
    (λ id named. next_of (λ _. Unit {0}) HasItemTexts (number_or_none (member_of (codes "seconds") d)) _ (any_given (number_or_none (member_of (codes "seconds") d)))
    (λ seconds u. next_of (λ _. Unit {0}) HasItemTexts (flag_or_false (member_of (codes "gone") d)) _ (any_given (flag_or_false (member_of (codes "gone") d)))
    (λ is_gone u. next_of (λ _. Unit {0}) HasItemTexts (flag_or_false (member_of (codes "skipped") d)) _ (any_given (flag_or_false (member_of (codes "skipped") d)))
    (λ is_skipped u. next_of MayHaveFailure HasItemTexts (failure_or_none (member_of (codes "failed") d)) _ (some_failure (member_of (codes "failed") d) (member_held (codes "failed") d h))
    (λ failure why. of_members address (unless_empty deposed) (unless_empty id) seconds is_gone is_skipped failure utf8 (filled_utf8 id named) why)))))))

-- ---- all items

abbrev HaveItemTexts : List Item → Type 0
HaveItemTexts items = AllByRecursion HasItemTexts items

and_one : (read : ReadItems) (d : Data) → HaveItemTexts read.items → IsHeld d → HaveItemTexts (and_element read d).items
unfolding and_element
and_one read d h held = of_fault read.fault
  where
    of_item : (o : Option Item) → IfSome o HasItemTexts → HaveItemTexts (with_item read.items o).items
    of_item None one = h
    of_item (Some item) one = all_both HasItemTexts read.items (item ∷ []) h (one, tt)

    of_test : (b : Bool) → HaveItemTexts (cond b (record { items = read.items; fault = Some TooMany }) (with_item read.items (item_of d))).items
    of_test true = h
    of_test false = of_item (item_of d) (item_texts d held)

    of_fault : (o : Option PlanningError) → HaveItemTexts (and_element_by o read.items d).items
    of_fault None = of_test (nat_le max_items (length read.items))
    of_fault (Some fault) = h

all_folded : (read : ReadItems) (ds : List Data) → HaveItemTexts read.items → AllByRecursion IsHeld ds → HaveItemTexts (fold and_element read ds).items
all_folded read [] h held = h
all_folded read (d ∷ ds) h held = all_folded (and_element read d) ds (and_one read d h held.0) held.1

in_tree : (d : Data) → IsScriptTree d → IfOk (said_in_tree d) (λ (read : ReadItems). HaveItemTexts read.items)
in_tree d tree =
    let Q = λ (read : ReadItems). HaveItemTexts read.items in
    then_of AreHeld Q (or_refuse (BadShape None) (items_or_empty (member_of (codes "planning") d))) _
    (refused_or AreHeld (BadShape None) (items_or_empty (member_of (codes "planning") d)) (of_member (member_of (codes "planning") d) (elements_held (codes "planning") d tree)))
    (λ elements held. all_folded nothing_read (list_of elements) tt (list_held elements held))
  where
    of_member : (o : Option Data) → IfSome (json.◌>>=◌ o as_array) AreHeld → IfSome (items_or_empty o) AreHeld
    of_member None h = (tt, tt)
    of_member (Some d) h = h

in_option : (script : Option (List ℕ)) → IfOk (said_in_option script) (λ (read : ReadItems). HaveItemTexts read.items)
in_option None = tt
in_option (Some bytes) = made_of_verbatim IsScriptTree (λ (read : ReadItems). HaveItemTexts read.items) is_verbatim_name TooLarge NotJson said_in_tree bytes (script_tree bytes) in_tree

said_texts : (objects : List PriorObject) (script : Option (List ℕ)) → IfOk (said_of objects script) HaveItemTexts
said_texts objects script = then_of (λ (read : ReadItems). HaveItemTexts read.items) HaveItemTexts (said_in_option script) (checked objects) (in_option script) (λ read h. of_fault read h (option_map Planning (option_or (first_fault objects [] read.items) read.fault)))
  where
    of_fault : (read : ReadItems) → HaveItemTexts read.items → (o : Option ScriptError) → IfOk (unless_refused o read.items) HaveItemTexts
    of_fault read h None = h
    of_fault read h (Some fault) = tt

-- ---- what is told

record HasViewTexts (told : ToldObject) : Type 0 where
  object : HasChangeTexts told.object
  id_before : IfSome told.id_before IsUtf8
  id_after : IfSome told.id_after IsUtf8
  failure : IfSome told.failure HasNoteTexts
  seconds : told.seconds < 2 ^ 64

abbrev HaveViewTexts : List ToldObject → Type 0
HaveViewTexts told = AllByRecursion HasViewTexts told

with_texts : (object : Object) (item : Option Item) → HasChangeTexts object.object → IfSome object.id_before IsUtf8 → IfSome item HasItemTexts → HasViewTexts (told_with object item)
with_texts object item has before h = record {
  object = has;
  id_before = at_start object.object.mode;
  id_after = at_end item h;
  failure = mapped (λ (failure : Failure). HasStatedDiagnostic failure.diag) HasNoteTexts (note_of object.object.address) (failure_of item) (λ failure texts. record { diag = texts.0; address = has.address; raw_texts = texts.1 })
      (gone_on HasItemTexts (λ (failure : Failure). HasStatedDiagnostic failure.diag) (λ item. item.failure) item (λ one texts. texts.failure) h);
  seconds = small item h;
}
  where
    at_start : (m : Mode) → IfSome (id_at_start m object.id_before (stated_id item)) IsUtf8
    at_start DataSource = tt
    at_start Managed = first_of_two IsUtf8 object.id_before (stated_id item) before (gone_on HasItemTexts IsUtf8 (λ item. item.id) item (λ one texts. texts.id) h)

    unless_gone : (one : Item) → HasItemTexts one → (b : Bool) → IfSome (cond b None (option_or one.id object.object.prior_id)) IsUtf8
    unless_gone one texts true = tt
    unless_gone one texts false = first_of_two IsUtf8 one.id object.object.prior_id texts.id has.prior_id

    at_end : (o : Option Item) → IfSome o HasItemTexts → IfSome (id_at_end o object.object.prior_id) IsUtf8
    at_end None h = has.prior_id
    at_end (Some one) h = unless_gone one h one.is_gone

    small : (o : Option Item) → IfSome o HasItemTexts → option_map_or (λ item. item.seconds) o 0 < 2 ^ 64
    small None h = omega arith
    small (Some one) h = h.seconds

-- an object that the plan does not know, by its address
some_of_test : {A : Type 0} (o : Option A) → is_some o ≡ true → (x : A) × (o ≡ Some x)
some_of_test None e = absurd cc
some_of_test (Some x) e = (x, refl)

unknown_texts : (address : List ℕ) (deposed : Option (List ℕ)) (parts : Parts) → IsUtf8 address → parts_in address ≡ Some parts → HasChangeTexts (unknown_with address deposed parts).object
unknown_texts address deposed parts utf8 is =
    let texts = is_given HasPreviousTexts (previous_at address) (with_parts address parts) (previous_has_texts address utf8) (ap (option_map (with_parts address)) is) in
    let relative = some_of_test (relative_address parts.module_address address) (relative_stands address parts utf8 is) in
    let object = (unknown_with address deposed parts).object in
    with_relative object (record { address = utf8; module_address = texts.module_address; kind_name = texts.kind_name; name = texts.name; key = texts.key; prior_id = tt }) (relative_joins object relative.0 relative.1)

module _ (rules : PlanningRules) (plan : PlannedObjects) (items : List Item) (h : HaveItemTexts items) where
  about : (object : ObjectName) → IfSome (item_about items object) HasItemTexts
  about object = gone_on (λ _. Unit {0}) HasItemTexts (slice_get items) (number_in object_of_item items object) (λ n u. held_at HasItemTexts items n h) (any_given (number_in object_of_item items object))

  each_known : (objects : List PriorObject) → AllByRecursion HasObjectTexts (map prior.object_view objects) → HaveViewTexts (flat_map (λ prior. told_known rules plan items (object_view prior)) objects)
  each_known [] texts = tt
  each_known (one ∷ objects) texts =
      let item = item_about items (object_of one.object) in
      all_both HasViewTexts (told_known rules plan items (object_view one)) (flat_map (λ prior. told_known rules plan items (object_view prior)) objects) (of_test item (about (object_of one.object)) (is_told rules plan one.object item)) (each_known objects texts.1)
    where
      of_test : (item : Option Item) → IfSome item HasItemTexts → (b : Bool) → HaveViewTexts (told_if b (object_view one) item)
      of_test item has true = (with_texts (object_view one) item texts.0.object texts.0.id_before has, tt)
      of_test item has false = tt

at_item : (item : Item) → HasItemTexts item → HaveViewTexts (told_at item)
at_item item h = of_parts (parts_in item.address) refl
  where
    of_parts : (o : Option Parts) → parts_in item.address ≡ o → HaveViewTexts (option_map_or (λ object. told_with object (Some item) ∷ []) (option_map (unknown_with item.address item.deposed) o) [])
    of_parts None is = tt
    of_parts (Some parts) is = (with_texts (unknown_with item.address item.deposed parts) (Some item) (unknown_texts item.address item.deposed parts h.address is) tt h, tt)

each_unknown : (objects : List PriorObject) (items : List Item) → HaveItemTexts items → HaveViewTexts (flat_map (told_unknown objects) items)
each_unknown objects [] h = tt
each_unknown objects (item ∷ items) h =
    all_both HasViewTexts (told_unknown objects item) (flat_map (told_unknown objects) items) (of_test (is_known objects (object_of_item item) || item.is_skipped)) (each_unknown objects items h.1)
  where
    of_test : (b : Bool) → HaveViewTexts (cond b [] (told_at item))
    of_test true = tt
    of_test false = at_item item h.0

as_told : (told : List Told) → HaveViewTexts (map told_view told) → AllByRecursion HasToldTexts told
as_told [] h = tt
as_told (one ∷ told) h = (record { object = h.0.object; id_before = h.0.id_before; id_after = h.0.id_after; failure = h.0.failure; seconds = h.0.seconds }, as_told told h.1)

pub told_have_texts : (rules : PlanningRules) (plan : PlannedObjects) (objects : List PriorObject) (script : Option (List ℕ)) (told : List Told) → AllByRecursion HasObjectTexts (map prior.object_view objects)
    → told_by_script rules plan objects script ≡ Ok (map told_view told) → AllByRecursion HasToldTexts told
told_have_texts rules plan objects script told texts is =
    as_told told
    (is_answered HaveViewTexts (told_by_script rules plan objects script) (map told_view told)
    (then_of HaveItemTexts HaveViewTexts (said_of objects script) _ (said_texts objects script)
    (λ items h. all_both HasViewTexts (flat_map (λ prior. told_known rules plan items (object_view prior)) objects) (flat_map (told_unknown objects) items) (each_known rules plan items h objects texts) (each_unknown objects items h)))
    is)
