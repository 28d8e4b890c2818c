-- A script that may be written is read back.
use Rattle.std.proofs.Common.{◌≡◌, Result, ◌≢◌, ℕ, zero, suc, ◌+◌, ◌==◌, ◌<◌, ◌≤◌, true, List, [], ◌∷◌, Bool, false, not, cond, length, map, slice_get, Option, Some, None, Ok, Err, option_map, option_and_then, refl, sym, ap, ap₂, ◌∙◌, subst, arith}
use Rattle.std.specs.Prelude.{codes, nat_lt, find, ◌||◌, IfSome}
use Rattle.std.specs.List.{AllByRecursion, list_any, position_from, range_with_len}
use Rattle.std.proofs.lemmas.Bool.{eq-eqb, le-ltb, ltb-false, ne_eqb}
use Rattle.serde_json.specs.Data.{Data}
use Rattle.serde_json.specs.Find.{as_array}
use Rattle.apply_json.specs.Tree as json
use Rattle.apply_json.specs.Tree.{list_of}
use Rattle.apply_json.specs.Verbatim.{mixed_tree_of}
use Rattle.apply_model.specs.declared.details.note.Note.{Note}
use Rattle.apply_model.specs.declared.script.script_step.ScriptStep.{ScriptStep}
use Rattle.apply_model.specs.Plan.ResourceChange.{ResourceChange}
use Rattle.apply_model.specs.Plan.SavedPlan.{SavedPlan}
use Rattle.apply_model.specs.Script.Limits.{max_waits}
use Rattle.apply_model.specs.Script.OutcomeMap.{OutcomeMap, first_skipped, stated_step, stated_steps}
use Rattle.apply_model.specs.Script.Step.{if_byte, is_skipped}
use Rattle.apply_model.specs.Script.Waits.{could_begin}
use Rattle.apply_plan.specs.declared.script.script_error.ScriptError.TheVariants.{BadShape, NeverBegins, NotJson, TooLarge}
use Rattle.apply_plan.specs.Bytes.{max_bytes}
use Rattle.apply_plan.specs.ListReading.{items_of}
use Rattle.apply_plan.specs.Results.{◌>>=◌, or_refuse, unless_refused}
use Rattle.apply_plan.specs.Script.Entry.{is_verbatim_name}
use Rattle.apply_plan.specs.Script.OutcomeMap.{ResolvedEntry, by_number, elements_of, is_stuck, outcomes_of, script_of, script_of_entries, script_of_tree, unless_stuck}
use Rattle.apply_plan.proofs.Scripts.WholeList.{entries_one_by_one}
use Rattle.stream_record.specs.declared.output.Output.{Output}
use Rattle.stream_record.specs.declared.script_fault.ScriptFault.{ScriptFault}
use Rattle.stream_record.specs.declared.script_fault.ScriptFault.TheVariants as fault
use Rattle.stream_record.specs.ScriptText.{script_within, entry_steps, script_text, unless_no_steps}
use Rattle.laws_record.specs.Writable.{AreWritableEntries, IsWritable, IsWritableEntry, IsWritableNote, IsWritableOutput, NoneIsEmpty, written}
use Rattle.laws_record.proofs.Elements.{all_made, resolved, resolved_before, resolved_from, waits_from}
use Rattle.laws_record.proofs.Lookups.{is_member}
use Rattle.laws_record.proofs.ScriptTexts.{script_fields, script_read}
use Rattle.laws_record.proofs.Trees.{entry_trees}
use Rattle.laws_record.proofs.Values.{object_with}

-- ---- the entries of each change

abbrev has_number : ℕ → ResolvedEntry → Bool
has_number n entry = entry.change == n

-- no entry has a smaller number
none_smaller : (script : OutcomeMap) (n m : ℕ) (left : List ResourceChange) → m < n → find (has_number m) (resolved_from script n left) ≡ None
none_smaller script n m [] less = refl
none_smaller script n m (change ∷ left) less = of_steps (entry_steps script n) (none_smaller script (n + 1) m left (omega arith))
  where
    of_steps : (o : Option (List ScriptStep)) → find (has_number m) (resolved_from script (n + 1) left) ≡ None → find (has_number m) (resolved_before n o (resolved_from script (n + 1) left)) ≡ None
    of_steps None rest = rest
    of_steps (Some steps) rest =
        let other = ne_eqb n m (λ e. omega arith) in
        (λ i. cond (other i) (Some (resolved n steps)) (find (has_number m) (resolved_from script (n + 1) left))) ∙ rest

abbrev steps_in : Option ResolvedEntry → Option (List ScriptStep)
steps_in found = option_map (λ (entry : ResolvedEntry). entry.steps) found

number_found : (script : OutcomeMap) (n k : ℕ) (left : List ResourceChange) → k < length left → outcomes_of (resolved_from script n left) (n + k) ≡ entry_steps script (n + k)
number_found script n k [] less = absurd (omega arith)
number_found script n zero (change ∷ left) less = of_steps (entry_steps script n) (none_smaller script (n + 1) n left (omega arith)) ∙ ap (entry_steps script) place
  where
    place : n ≡ n + 0
    place = omega arith

    of_steps : (o : Option (List ScriptStep)) → find (has_number n) (resolved_from script (n + 1) left) ≡ None
        → steps_in (find (has_number (n + 0)) (resolved_before n o (resolved_from script (n + 1) left))) ≡ o
    of_steps None rest = ap (λ m. steps_in (find (has_number m) (resolved_from script (n + 1) left))) (sym place) ∙ ap steps_in rest
    of_steps (Some steps) rest =
        let same = eq-eqb n (n + 0) place in
        λ i. steps_in (cond (same i) (Some (resolved n steps)) (find (has_number (n + 0)) (resolved_from script (n + 1) left)))
number_found script n (suc k) (change ∷ left) less = of_steps (entry_steps script n) (number_found script (n + 1) k left (omega arith)) ∙ ap (entry_steps script) (sym place)
  where
    place : n + suc k ≡ n + 1 + k
    place = omega arith

    of_steps : (o : Option (List ScriptStep)) → outcomes_of (resolved_from script (n + 1) left) (n + 1 + k) ≡ entry_steps script (n + 1 + k)
        → steps_in (find (has_number (n + suc k)) (resolved_before n o (resolved_from script (n + 1) left))) ≡ entry_steps script (n + 1 + k)
    of_steps None rest = ap (λ m. steps_in (find (has_number m) (resolved_from script (n + 1) left))) place ∙ rest
    of_steps (Some steps) rest =
        let other = ne_eqb n (n + suc k) (λ e. omega arith) in
        (λ i. steps_in (cond (other i) (Some (resolved n steps)) (find (has_number (n + suc k)) (resolved_from script (n + 1) left))))
        ∙ ap (λ m. steps_in (find (has_number m) (resolved_from script (n + 1) left))) place ∙ rest

same_map : {A : Type 0} (f g : ℕ → A) (first len : ℕ) → ((k : ℕ) → k < len → f (first + k) ≡ g (first + k)) → map f (range_with_len first len) ≡ map g (range_with_len first len)
same_map f g first zero same = refl
same_map f g first (suc len) same =
    let here : first ≡ first + 0 = omega arith in
    let head = ap f here ∙ same 0 (omega arith) ∙ ap g (sym here) in
    ap₂ (λ x xs. x ∷ xs) head
    (same_map f g (first + 1) len (λ k less. let place : first + 1 + k ≡ first + suc k = omega arith in ap f place ∙ same (suc k) (omega arith) ∙ ap g (sym place)))

map_is : (changes : List ResourceChange) (script : OutcomeMap) → by_number (length changes) (resolved_from script 0 changes) ≡ written changes script
map_is changes script = same_map (outcomes_of (resolved_from script 0 changes)) (entry_steps script) 0 (length changes) (λ k less. number_found script 0 k changes less)

-- ---- each step could begin

none_in_range : (test : ℕ → Bool) (first len : ℕ) → ((k : ℕ) → k < len → test (first + k) ≡ false) → list_any test (range_with_len first len) ≡ false
none_in_range test first zero none = refl
none_in_range test first (suc len) none =
    let here : first ≡ first + 0 = omega arith in
    let head = ap test here ∙ none 0 (omega arith) in
    let rest = none_in_range test (first + 1) len (λ k less. let place : first + 1 + k ≡ first + suc k = omega arith in ap test place ∙ none (suc k) (omega arith)) in
    λ i. head i || rest i

module _ (changes : List ResourceChange) (script : OutcomeMap) where
  not_stuck : (n : ℕ) (change : ResourceChange) (steps : List ScriptStep) → IsWritableEntry changes script n change steps → is_stuck (written changes script) (resolved n steps) ≡ false
  not_stuck n change steps is =
      none_in_range (λ step. not (could_begin (written changes script) n step)) 0 (length steps)
      (λ k less. let place : k ≡ 0 + k = omega arith in ap (λ step. not (could_begin (written changes script) n step)) (sym place) ∙ ap not (is.begins k less))

  none_stuck : (n at : ℕ) (left : List ResourceChange) → AreWritableEntries changes script n left → position_from (is_stuck (written changes script)) at (resolved_from script n left) ≡ None
  none_stuck n at [] all = refl
  none_stuck n at (change ∷ left) all = of_steps (entry_steps script n) all.0 (λ next. none_stuck (n + 1) next left all.1)
    where
      of_steps : (o : Option (List ScriptStep)) → IfSome o (IsWritableEntry changes script n change)
          → ((next : ℕ) → position_from (is_stuck (written changes script)) next (resolved_from script (n + 1) left) ≡ None)
          → position_from (is_stuck (written changes script)) at (resolved_before n o (resolved_from script (n + 1) left)) ≡ None
      of_steps None is rest = rest at
      of_steps (Some steps) is rest =
          let free = not_stuck n change steps is in
          (λ i. cond (free i) (Some at) (position_from (is_stuck (written changes script)) (at + 1) (resolved_from script (n + 1) left))) ∙ rest (at + 1)

-- ---- the whole script

abbrev text_in : Result (List ℕ) ScriptFault → List ℕ
text_in (Ok text) = text
text_in (Err refusal) = []

-- the text that is written, if it is not too large
pub text_within : (changes : List ResourceChange) (script : OutcomeMap) (outputs : List Output) (notes : List Note) (text : List ℕ) → script_within changes script outputs notes ≡ Ok text
    → (script_text changes script outputs notes ≡ text) × (length (script_text changes script outputs notes) ≤ max_bytes)
text_within changes script outputs notes text e = of_test (nat_lt max_bytes (length (script_text changes script outputs notes))) refl e
  where
    of_test : (b : Bool) → nat_lt max_bytes (length (script_text changes script outputs notes)) ≡ b
        → cond b (Err fault.TooLarge) (Ok (script_text changes script outputs notes)) ≡ Ok text
        → (script_text changes script outputs notes ≡ text) × (length (script_text changes script outputs notes) ≤ max_bytes)
    of_test true is same = absurd cc
    of_test false is same = (ap text_in same, ltb-false max_bytes (length (script_text changes script outputs notes)) is)

module _ (plan : SavedPlan) (script : OutcomeMap) (is : IsWritable plan.changes script) where
  abbrev entries : List ResolvedEntry
  entries = resolved_from script 0 plan.changes

  abbrev trees : List Data
  trees = entry_trees plan.changes script 0 plan.changes

  entries_read : script_of_entries plan (list_of (items_of trees)) ≡ Ok (written plan.changes script)
  unfolding script_of_entries
  entries_read =
      let none : List ResolvedEntry = [] in
      let stands = λ (k : ℕ) (change : ResourceChange) (e : slice_get plan.changes k ≡ Some change). let place : 0 + k ≡ k = omega arith in ap (slice_get plan.changes) place ∙ e in
      let waits = waits_from script 0 plan.changes in
      let zero_is : waits ≡ 0 + waits = omega arith in
      let few : 0 + waits ≤ max_waits = subst (λ m. m ≤ max_waits) zero_is is.few_waits in
      let made = all_made plan.changes is.each is.once script 0 plan.changes none stands is.each is.entries tt few in
      let one_by_one = sym (entries_one_by_one plan.changes (items_of trees)) ∙ made in
      let same = map_is plan.changes script in
      let free = none_stuck plan.changes script 0 0 plan.changes is.entries in
      (λ i. one_by_one i >>= (λ found. unless_stuck found (by_number (length plan.changes) found)))
      ∙ (λ i. unless_stuck entries (same i))
      ∙ (λ i. unless_refused (option_map NeverBegins (free i)) (written plan.changes script))

  tree_read : (outputs : Option Data) (notes : List Note) → script_of_tree plan (object_with (script_fields plan.changes script outputs notes)) ≡ Ok (written plan.changes script)
  unfolding script_of_tree
  tree_read outputs notes =
      let fields = script_fields plan.changes script outputs notes in
      let elements_are : elements_of (object_with fields) ≡ Some (items_of trees) = ap (λ o. json.◌>>=◌ o as_array) (is_member (codes "changes") fields) in
      (λ i. or_refuse (BadShape None) (elements_are i) >>= (λ elements. script_of_entries plan (list_of elements))) ∙ entries_read

  text_read : (outputs : List Output) (notes : List Note) → AllByRecursion IsWritableOutput outputs → AllByRecursion IsWritableNote notes
      → length (script_text plan.changes script outputs notes) ≤ max_bytes → script_of plan (script_text plan.changes script outputs notes) ≡ Ok (written plan.changes script)
  unfolding script_of
  text_read outputs notes exported noted few =
      let text = script_text plan.changes script outputs notes in
      let short = le-ltb max_bytes (length text) few in
      let read = script_read plan.changes script outputs notes is exported noted in
      (λ i. cond (short i) (Err TooLarge) (or_refuse NotJson (mixed_tree_of is_verbatim_name text) >>= script_of_tree plan))
      ∙ (λ i. or_refuse NotJson (read.1 i) >>= script_of_tree plan)
      ∙ tree_read read.0 notes

  pub read_back : (outputs : List Output) (notes : List Note) (text : List ℕ) → AllByRecursion IsWritableOutput outputs → AllByRecursion IsWritableNote notes
      → script_within plan.changes script outputs notes ≡ Ok text → script_of plan text ≡ Ok (written plan.changes script)
  read_back outputs notes text exported noted e =
      let both = text_within plan.changes script outputs notes text e in
      ap (script_of plan) (sym both.0) ∙ text_read outputs notes exported noted both.1

-- ---- equality

unless_empty_is : (o : Option (List ScriptStep)) → o ≢ Some [] → option_and_then unless_no_steps o ≡ o
unless_empty_is None some = refl
unless_empty_is (Some []) some = absurd (some refl)
unless_empty_is (Some (step ∷ steps)) some = refl

abbrev step_list : Option (Option (List ScriptStep)) → Option (List ScriptStep)
step_list o = option_and_then unless_no_steps (option_and_then (λ stated. stated) o)

same_entries : (f : ℕ → Option (List ScriptStep)) (first : ℕ) (script : OutcomeMap) → NoneIsEmpty script → ((k : ℕ) → f (first + k) ≡ step_list (slice_get script k))
    → map f (range_with_len first (length script)) ≡ script
same_entries f first [] some is = refl
same_entries f first (stated ∷ script) some is =
    let here : first ≡ first + 0 = omega arith in
    ap₂ (λ (x : Option (List ScriptStep)) (xs : OutcomeMap). x ∷ xs) (ap f here ∙ is 0 ∙ unless_empty_is stated some.0)
    (same_entries f (first + 1) script some.1 (λ k. let place : first + 1 + k ≡ first + suc k = omega arith in ap f place ∙ is (suc k)))

pub same_script : (changes : List ResourceChange) (script : OutcomeMap) → length script ≡ length changes → NoneIsEmpty script → written changes script ≡ script
same_script changes script count some =
    ap (λ n. map (entry_steps script) (range_with_len 0 n)) (sym count)
    ∙ same_entries (entry_steps script) 0 script some (λ k. let place : 0 + k ≡ k = omega arith in ap (entry_steps script) place)

-- ---- the same steps

range_got : {A : Type 0} (f : ℕ → A) (first len k : ℕ) → k < len → slice_get (map f (range_with_len first len)) k ≡ Some (f (first + k))
range_got f first zero k less = absurd (omega arith)
range_got f first (suc len) zero less = let here : first ≡ first + 0 = omega arith in ap (λ n. Some (f n)) here
range_got f first (suc len) (suc k) less =
    let place : first + 1 + k ≡ first + suc k = omega arith in
    range_got f (first + 1) len k (omega arith) ∙ ap (λ n. Some (f n)) place

steps_written : (changes : List ResourceChange) (script : OutcomeMap) (c : ℕ) → c < length changes → stated_steps (written changes script) c ≡ entry_steps script c
steps_written changes script c less =
    let place : 0 + c ≡ c = omega arith in
    ap (option_and_then (λ stated. stated)) (range_got (entry_steps script) 0 (length changes) c less) ∙ ap (entry_steps script) place

one_step : (o : Option (List ScriptStep)) (k : ℕ) → option_and_then (λ steps. slice_get steps k) (option_and_then unless_no_steps o) ≡ option_and_then (λ steps. slice_get steps k) o
one_step None k = refl
one_step (Some []) k = refl
one_step (Some (step ∷ steps)) k = refl

pub same_step : (changes : List ResourceChange) (script : OutcomeMap) (c k : ℕ) → c < length changes → stated_step (written changes script) c k ≡ stated_step script c k
same_step changes script c k less = ap (option_and_then (λ steps. slice_get steps k)) (steps_written changes script c less) ∙ one_step (stated_steps script c) k

skipped_in : (o : Option (List ScriptStep))
    → option_and_then (λ steps. if_byte (position_from is_skipped 0 steps)) (option_and_then unless_no_steps o) ≡ option_and_then (λ steps. if_byte (position_from is_skipped 0 steps)) o
skipped_in None = refl
skipped_in (Some []) = refl
skipped_in (Some (step ∷ steps)) = refl

pub same_skipped : (changes : List ResourceChange) (script : OutcomeMap) (c : ℕ) → c < length changes → first_skipped (written changes script) c ≡ first_skipped script c
same_skipped changes script c less =
    ap (option_and_then (λ steps. if_byte (position_from is_skipped 0 steps))) (steps_written changes script c less) ∙ skipped_in (stated_steps script c)
