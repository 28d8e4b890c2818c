-- Each range and each snippet of a script that was read is an object.
use Rattle.std.proofs.Common.{◌≡◌, ℕ, zero, suc, ◌+◌, ◌==◌, List, [], ◌∷◌, codes, cond, find, length, map, nat_lt, slice_get, Bool, true, false, Option, Some, None, Result, Ok, Err, refl, sym, ◌∙◌, subst}
use Rattle.std.specs.Prelude.{◌&&◌, ◌||◌, IfOk, IfSome, is_some, not, option_map, sum_by}
use Rattle.std.specs.Str.{bytes_eq}
use Rattle.std.specs.List.{AllByRecursion, filter_map, list_any, position_from, range_with_len}
use Rattle.serde_json.specs.Data.{Data}
use Rattle.serde_json.specs.Find.{as_array, as_str}
use Rattle.apply_json.specs.Tree.{items_or_empty, list_of, member_of, non_empty_text_of, text_of, text_or, unless_empty}
use Rattle.apply_json.specs.Verbatim.{mixed_tree_of}
use Rattle.apply_model.specs.declared.script.diag.Diag.{Diag}
use Rattle.apply_model.specs.declared.script.ending.Ending.{Ending}
use Rattle.apply_model.specs.declared.script.ending.Ending.TheVariants.{Done, Failed, Warned}
use Rattle.apply_model.specs.declared.script.outcome.Outcome.{Outcome}
use Rattle.apply_model.specs.declared.script.provisioner.Provisioner.{Provisioner}
use Rattle.apply_model.specs.declared.script.script_step.ScriptStep.{ScriptStep}
use Rattle.apply_model.specs.declared.script.wait.Wait.{Wait}
use Rattle.apply_model.specs.Plan.ResourceChange.{ResourceChange}
use Rattle.apply_model.specs.Plan.SavedPlan.{SavedPlan}
use Rattle.apply_model.specs.Script.Outcome.{default_outcome, diag_of_ending, failure_by, first_diag, is_failed, is_warned, warning_in}
use Rattle.apply_model.specs.Script.OutcomeMap.{OutcomeMap, outcome_of, stated_outcome, stated_step, stated_steps}
use Rattle.apply_model.specs.Script.Step.{answer_to}
use Rattle.apply_plan.specs.declared.script.script_error.ScriptError.{ScriptError}
use Rattle.apply_plan.specs.declared.script.script_error.ScriptError.TheVariants.{BadShape, Duplicate, NeverBegins, NotJson, TooLarge, UnknownChange}
use Rattle.apply_plan.specs.Bytes.{max_bytes}
use Rattle.apply_plan.specs.Results.{all_or_first, each_with_earlier, or_refuse, unless_refused}
use Rattle.apply_plan.specs.Script.Entry.{Entry, EntryStep, Failure, all_some, answered_with, diag_from, diag_or_none, each_of, ending_from, ending_of, entry_of, failure_from, failure_or_none, flag_or_false, is_bare, is_object_text, is_verbatim_name, may_fail_or_not, object_or_none, object_text, only_warns_or_not, output_from, provisioner_from, seconds_of, skipped_with, step_from, timed_outputs, wait_from}
use Rattle.apply_plan.specs.Script.OutcomeMap.{ResolvedEntry, by_number, change_of_entry, count_in, elements_of, entry_at, is_stuck, names_change, outcomes_of, resolved_by, script_of, script_of_entries, script_of_tree}
use Rattle.apply_plan.specs.Script.Refusals.{fault_of_entry}
use Rattle.apply_plan.specs.Script.WaitedStep.{resolved_step, step_waited, with_waits}
use Rattle.apply_run.specs.Bytes.{given_script}
use Rattle.apply_text.specs.Message.{failure_diag, no_diag, warning_of}
use Rattle.stream_record_lines.specs.JsonMembers.{is_object}
use Rattle.laws_check.proofs.Given.{AreAnswers, any_given, each_answered, first_of_two, gone_on, held_at, is_answered, mapped, next_of, refused_or, then_of, unwrapped}

-- ---- a diagnostic

abbrev pub IsObject : List ℕ → Type 0
IsObject text = is_object text ≡ true

-- its range and its snippet are objects, if there are any
pub record HasObjects (diag : Diag) : Type 0 where
  pub range : IfSome diag.range IsObject
  pub snippet : IfSome diag.snippet IsObject

abbrev pub MayHaveObjects : Option Diag → Type 0
MayHaveObjects diag = IfSome diag HasObjects

same_test : (text : List ℕ) → is_object_text text ≡ is_object text
same_test [] = refl
same_test (byte ∷ bytes) = refl

object_held : (o : Option Data) → IfSome (object_or_none o) (λ text. IfSome text IsObject)
object_held None = tt
object_held (Some d) = next_of (λ _. Unit {0}) (λ text. IfSome text IsObject) (as_str d) object_text (any_given (as_str d)) (λ text u. of_null text (bytes_eq text (codes "null")))
  where
    of_test : (text : List ℕ) (b : Bool) → is_object_text text ≡ b → IfSome (cond b (Some (Some text)) None) (λ text. IfSome text IsObject)
    of_test text true is = sym (same_test text) ∙ is
    of_test text false is = tt

    of_null : (text : List ℕ) (b : Bool) → IfSome (cond b (Some None) (cond (is_object_text text) (Some (Some text)) None)) (λ text. IfSome text IsObject)
    of_null text true = tt
    of_null text false = of_test text (is_object_text text) refl

diag_objects : (d : Data) → IfSome (diag_from d) HasObjects
diag_objects d =
    next_of (λ _. Unit {0}) HasObjects (text_of (codes "summary") d) _ (any_given (text_of (codes "summary") d))
    (λ summary u. next_of (λ _. Unit {0}) HasObjects (text_or [] (member_of (codes "detail") d)) _ (any_given (text_or [] (member_of (codes "detail") d)))
    (λ detail u. next_of (λ text. IfSome text IsObject) HasObjects (object_or_none (member_of (codes "range") d)) _ (object_held (member_of (codes "range") d))
    (λ range range_is. next_of (λ text. IfSome text IsObject) HasObjects (object_or_none (member_of (codes "snippet") d)) _ (object_held (member_of (codes "snippet") d))
    (λ snippet snippet_is. record { range = range_is; snippet = snippet_is }))))

some_diag : (o : Option Data) → IfSome (diag_or_none o) MayHaveObjects
some_diag None = tt
some_diag (Some d) = mapped HasObjects MayHaveObjects Some (diag_from d) (λ diag has. has) (diag_objects d)

-- ---- how a step ends

abbrev pub EndsWithObjects : Ending → Type 0
EndsWithObjects (Done id warning) = MayHaveObjects warning
EndsWithObjects (Failed diag) = HasObjects diag
EndsWithObjects (Warned diag) = HasObjects diag

abbrev FailsWithObjects : Failure → Type 0
FailsWithObjects failure = HasObjects failure.diag

failure_objects : (d : Data) → IfSome (failure_from d) FailsWithObjects
failure_objects d =
    next_of HasObjects FailsWithObjects (diag_from d) _ (diag_objects d)
    (λ diag has. next_of (λ _. Unit {0}) FailsWithObjects (only_warns_or_not (member_of (codes "severity") d)) _ (any_given (only_warns_or_not (member_of (codes "severity") d))) (λ only_warns u. has))

some_failure : (o : Option Data) → IfSome (failure_or_none o) (λ failure. IfSome failure FailsWithObjects)
some_failure None = tt
some_failure (Some d) = mapped FailsWithObjects (λ failure. IfSome failure FailsWithObjects) Some (failure_from d) (λ failure has. has) (failure_objects d)

ended : (id : Option (List ℕ)) (warning : Option Diag) (failed : Option Failure) → MayHaveObjects warning → IfSome failed FailsWithObjects → IfSome (ending_from id warning failed) EndsWithObjects
ended id warning None warned why = warned
ended None None (Some failure) warned why = either failure.only_warns
  where
    either : (b : Bool) → EndsWithObjects (cond b (Warned failure.diag) (Failed failure.diag))
    either true = why
    either false = why
ended None (Some warning) (Some failure) warned why = tt
ended (Some id) warning (Some failure) warned why = tt

ending_objects : (d : Data) → IfSome (ending_of d) EndsWithObjects
unfolding ending_of
ending_objects d =
    next_of (λ _. Unit {0}) EndsWithObjects (text_or [] (member_of (codes "id") d)) _ (any_given (text_or [] (member_of (codes "id") d)))
    (λ id u. next_of MayHaveObjects EndsWithObjects (diag_or_none (member_of (codes "warning") d)) _ (some_diag (member_of (codes "warning") d))
    (λ warning warned. next_of (λ failure. IfSome failure FailsWithObjects) EndsWithObjects (failure_or_none (member_of (codes "failed") d)) _ (some_failure (member_of (codes "failed") d))
    (λ failed why. ended (unless_empty id) warning failed warned why)))

-- ---- lists

all_made : {A : Type 0} (P : A → Type 0) (part : Data → Option A) (ds : List Data) → ((d : Data) → IfSome (part d) P) → IfSome (all_some (map part ds)) (AllByRecursion P)
all_made P part [] each = tt
all_made P part (d ∷ ds) each =
    next_of P (AllByRecursion P) (part d) _ (each d) (λ y one. next_of (AllByRecursion P) (AllByRecursion P) (all_some (map part ds)) _ (all_made P part ds each) (λ ys others. (one, others)))

each_made : {A : Type 0} (P : A → Type 0) (part : Data → Option A) (o : Option Data) → ((d : Data) → IfSome (part d) P) → IfSome (each_of part o) (AllByRecursion P)
each_made P part o each = next_of (λ _. Unit {0}) (AllByRecursion P) (items_or_empty o) _ (any_given (items_or_empty o)) (λ items u. all_made P part (list_of items) each)

-- ---- a step

abbrev pub MayFailWithObjects : Provisioner → Type 0
MayFailWithObjects provisioner = MayHaveObjects provisioner.failed

provisioner_objects : (d : Data) → IfSome (provisioner_from d) MayFailWithObjects
unfolding provisioner_from
provisioner_objects d =
    next_of (λ _. Unit {0}) MayFailWithObjects (non_empty_text_of (codes "provisioner") d) _ (any_given (non_empty_text_of (codes "provisioner") d))
    (λ name u. next_of (λ _. Unit {0}) MayFailWithObjects (seconds_of d) _ (any_given (seconds_of d))
    (λ seconds u. next_of MayHaveObjects MayFailWithObjects (diag_or_none (member_of (codes "failed") d)) _ (some_diag (member_of (codes "failed") d))
    (λ failed why. next_of (λ _. Unit {0}) MayFailWithObjects (each_of output_from (member_of (codes "output") d)) _ (any_given (each_of output_from (member_of (codes "output") d)))
    (λ items u. next_of (λ _. Unit {0}) MayFailWithObjects (timed_outputs seconds items) _ (any_given (timed_outputs seconds items))
    (λ output u. next_of (λ _. Unit {0}) MayFailWithObjects (may_fail_or_not (member_of (codes "on_failure") d)) _ (any_given (may_fail_or_not (member_of (codes "on_failure") d)))
    (λ may_fail u. why))))))

pub record AreObjects (outcome : Outcome) : Type 0 where
  pub result : EndsWithObjects outcome.result
  pub provisioners : AllByRecursion MayFailWithObjects outcome.provisioners

abbrev MayBeObjects : Option Outcome → Type 0
MayBeObjects outcome = IfSome outcome AreObjects

abbrev StepHasObjects : EntryStep → Type 0
StepHasObjects step = MayBeObjects step.outcome

step_objects : (d : Data) → IfSome (step_from d) StepHasObjects
unfolding step_from
step_objects d =
    next_of (λ _. Unit {0}) StepHasObjects (flag_or_false (member_of (codes "skipped") d)) _ (any_given (flag_or_false (member_of (codes "skipped") d)))
    (λ skipped u. next_of EndsWithObjects StepHasObjects (ending_of d) _ (ending_objects d)
    (λ result ends. next_of (AllByRecursion MayFailWithObjects) StepHasObjects (each_of provisioner_from (member_of (codes "provisioners") d)) _ (each_made MayFailWithObjects provisioner_from (member_of (codes "provisioners") d) provisioner_objects)
    (λ provisioners all. next_of (λ _. Unit {0}) StepHasObjects (each_of wait_from (member_of (codes "after") d)) _ (any_given (each_of wait_from (member_of (codes "after") d)))
    (λ after u. next_of MayBeObjects StepHasObjects _ _ (of_kind skipped (is_some (member_of (codes "seconds") d)) (seconds_of d) result provisioners ends all) (λ outcome has. has)))))
  where
    of_none : (b : Bool) → IfSome (cond b None (Some None)) MayBeObjects
    of_none true = tt
    of_none false = tt

    of_one : (b : Bool) (outcome : Outcome) → AreObjects outcome → IfSome (option_map Some (cond b None (Some outcome))) MayBeObjects
    of_one true outcome has = tt
    of_one false outcome has = has

    of_kind : (skipped stated : Bool) (seconds : Option ℕ) (result : Ending) (provisioners : List Provisioner) → EndsWithObjects result → AllByRecursion MayFailWithObjects provisioners
        → IfSome (cond skipped (skipped_with stated result provisioners) (answered_with seconds result provisioners)) MayBeObjects
    of_kind true stated seconds result provisioners ends all = of_none (stated || (not (is_bare result) || nat_lt 0 (length provisioners)))
    of_kind false stated None result provisioners ends all = tt
    of_kind false stated (Some seconds) result provisioners ends all =
        of_one ((is_failed result || is_warned result) && nat_lt 0 (length provisioners)) (record { seconds = seconds; provisioners = provisioners; result = result; after = [] }) (record { result = ends; provisioners = all })

-- ---- an entry

abbrev EntryHasObjects : Entry → Type 0
EntryHasObjects entry = AllByRecursion StepHasObjects entry.steps

entry_objects : (d : Data) → IfSome (entry_of d) EntryHasObjects
unfolding entry_of
entry_objects d =
    next_of (λ _. Unit {0}) EntryHasObjects (text_of (codes "address") d) _ (any_given (text_of (codes "address") d))
    (λ address u. next_of (λ _. Unit {0}) EntryHasObjects (text_or [] (member_of (codes "deposed") d)) _ (any_given (text_or [] (member_of (codes "deposed") d)))
    (λ deposed u. next_of (λ _. Unit {0}) EntryHasObjects (member_of (codes "steps") d) _ (any_given (member_of (codes "steps") d))
    (λ list u. next_of (λ _. Unit {0}) EntryHasObjects (as_array list) _ (any_given (as_array list))
    (λ items u. next_of (AllByRecursion StepHasObjects) EntryHasObjects (all_some (map step_from (list_of items))) _ (all_made StepHasObjects step_from (list_of items) step_objects) (λ steps has. has)))))

abbrev StatesObjects : ScriptStep → Type 0
StatesObjects step = MayBeObjects (answer_to step)

abbrev ResolvedHasObjects : ResolvedEntry → Type 0
ResolvedHasObjects one = AllByRecursion StatesObjects one.steps

with_its_waits : (outcome : Option Outcome) (waits : List Wait) → MayBeObjects outcome → StatesObjects (with_waits outcome waits)
with_its_waits None waits has = tt
with_its_waits (Some outcome) waits has = record { result = has.result; provisioners = has.provisioners }

all_resolved : (changes : List ResourceChange) (steps : List EntryStep) → AllByRecursion StepHasObjects steps → AllByRecursion StatesObjects (map (resolved_step changes) steps)
all_resolved changes [] has = tt
all_resolved changes (step ∷ steps) has = (with_its_waits step.outcome (filter_map (step_waited changes) step.after) has.0, all_resolved changes steps has.1)

resolved_objects : (changes : List ResourceChange) (before : List Data) (d : Data) → IfOk (entry_at changes before d) ResolvedHasObjects
unfolding entry_at
resolved_objects changes before d =
    then_of EntryHasObjects ResolvedHasObjects (or_refuse (BadShape (Some (length before))) (entry_of d)) _ (refused_or EntryHasObjects (BadShape (Some (length before))) (entry_of d) (entry_objects d))
    (λ entry has. then_of (λ _. Unit {0}) ResolvedHasObjects (or_refuse (UnknownChange (length before)) (change_of_entry changes entry)) _
    (refused_or (λ _. Unit {0}) (UnknownChange (length before)) (change_of_entry changes entry) (any_given (change_of_entry changes entry)))
    (λ located u. of_tests located.0 entry.steps has (list_any (names_change located.1) before) (fault_of_entry (length before) changes (sum_by count_in before) located.1 entry.steps)))
  where
    of_tests : (number : ℕ) (steps : List EntryStep) → AllByRecursion StepHasObjects steps → (b : Bool) (fault : Option ScriptError)
        → IfOk (cond b (Err (Duplicate (length before))) (unless_refused fault (resolved_by changes number steps))) ResolvedHasObjects
    of_tests number steps has true fault = tt
    of_tests number steps has false (Some fault) = tt
    of_tests number steps has false None = all_resolved changes steps has

-- ---- the script

all_stated : (entries : List ResolvedEntry) (c : ℕ) → AllByRecursion ResolvedHasObjects entries → IfSome (outcomes_of entries c) (AllByRecursion StatesObjects)
all_stated [] c h = tt
all_stated (x ∷ entries) c h = of_test (x.change == c) (all_stated entries c h.1)
  where
    of_test : (b : Bool) → IfSome (outcomes_of entries c) (AllByRecursion StatesObjects)
        → IfSome (option_map (λ (entry : ResolvedEntry). entry.steps) (cond b (Some x) (find (λ (entry : ResolvedEntry). entry.change == c) entries))) (AllByRecursion StatesObjects)
    of_test true rest = h.0
    of_test false rest = rest

abbrev ScriptHasObjects : OutcomeMap → Type 0
ScriptHasObjects script = (c k : ℕ) → MayBeObjects (stated_outcome script c k)

abbrev MayStateObjects : Option (List ScriptStep) → Type 0
MayStateObjects steps = IfSome steps (AllByRecursion StatesObjects)

numbered_objects : (low n : ℕ) (entries : List ResolvedEntry) → AllByRecursion ResolvedHasObjects entries → AllByRecursion MayStateObjects (map (outcomes_of entries) (range_with_len low n))
numbered_objects low zero entries h = tt
numbered_objects low (suc n) entries h = (all_stated entries low h, numbered_objects (low + 1) n entries h)

entries_objects : (count : ℕ) (entries : List ResolvedEntry) → AllByRecursion ResolvedHasObjects entries → ScriptHasObjects (by_number count entries)
entries_objects count entries h c k =
    let script = by_number count entries in
    gone_on StatesObjects AreObjects answer_to (stated_step script c k) (λ step has. has)
    (gone_on (AllByRecursion StatesObjects) StatesObjects _ (stated_steps script c) (λ steps all. held_at StatesObjects steps k all)
    (gone_on MayStateObjects (AllByRecursion StatesObjects) (λ steps. steps) (slice_get script c) (λ steps all. all) (held_at MayStateObjects script c (numbered_objects 0 count entries h))))

unless_held : (o : Option ScriptError) (script : OutcomeMap) → ScriptHasObjects script → IfOk (unless_refused o script) ScriptHasObjects
unless_held None script h = h
unless_held (Some refusal) script h = tt

any_list : {A : Type 0} (xs : List A) → AllByRecursion (λ _. Unit {0}) xs
any_list [] = tt
any_list (x ∷ xs) = (tt, any_list xs)

all_entries : (plan : SavedPlan) (elements : List Data) → IfOk (script_of_entries plan elements) ScriptHasObjects
unfolding script_of_entries
all_entries plan elements =
    then_of (AreAnswers ResolvedHasObjects elements) ScriptHasObjects (all_or_first (each_with_earlier (entry_at plan.changes) elements)) _
    (each_answered (λ _. Unit {0}) ResolvedHasObjects (entry_at plan.changes) elements (λ before d u. resolved_objects plan.changes before d) (any_list elements))
    (λ entries held. unless_held (option_map NeverBegins (position_from (is_stuck (by_number (length plan.changes) entries)) 0 entries)) (by_number (length plan.changes) entries)
    (entries_objects (length plan.changes) entries held.0))

tree_objects : (plan : SavedPlan) (d : Data) → IfOk (script_of_tree plan d) ScriptHasObjects
unfolding script_of_tree
tree_objects plan d =
    then_of (λ _. Unit {0}) ScriptHasObjects (or_refuse (BadShape None) (elements_of d)) (λ elements. script_of_entries plan (list_of elements))
    (refused_or (λ _. Unit {0}) (BadShape None) (elements_of d) (any_given (elements_of d))) (λ elements u. all_entries plan (list_of elements))

guarded : (b : Bool) (refusal : ScriptError) (answer : Result OutcomeMap ScriptError) → IfOk answer ScriptHasObjects → IfOk (cond b (Err refusal) answer) ScriptHasObjects
guarded true refusal answer h = tt
guarded false refusal answer h = h

script_objects : (plan : SavedPlan) (bytes : List ℕ) (script : OutcomeMap) → script_of plan bytes ≡ Ok script → ScriptHasObjects script
unfolding script_of
script_objects plan bytes script e =
    let tree = mixed_tree_of is_verbatim_name bytes in
    is_answered ScriptHasObjects _ script
    (guarded (nat_lt max_bytes (length bytes)) TooLarge _
    (then_of (λ _. Unit {0}) ScriptHasObjects (or_refuse NotJson tree) (script_of_tree plan) (refused_or (λ _. Unit {0}) NotJson tree (any_given tree)) (λ d u. tree_objects plan d))) e

given_objects : (plan : SavedPlan) (bytes : Option (List ℕ)) (script : OutcomeMap) → given_script plan bytes ≡ Ok script → ScriptHasObjects script
given_objects plan None script e = subst ScriptHasObjects (let same : [] ≡ script = cc in same) (λ c k. tt)
given_objects plan (Some bytes) script e = script_objects plan bytes script e

-- ---- the diagnostics of an outcome

nothing_has : HasObjects no_diag
nothing_has = record { range = tt; snippet = tt }

default_has : AreObjects default_outcome
default_has = record { result = tt; provisioners = tt }

ending_has : (ending : Ending) → EndsWithObjects ending → MayHaveObjects (diag_of_ending ending) × MayHaveObjects (warning_in ending)
ending_has (Done id warning) ends = (tt, ends)
ending_has (Failed diag) ends = (ends, tt)
ending_has (Warned diag) ends = (tt, ends)

first_has : (provisioners : List Provisioner) → AllByRecursion MayFailWithObjects provisioners → MayHaveObjects (first_diag provisioners)
first_has [] all = tt
first_has (provisioner ∷ others) all = first_of_two HasObjects (failure_by provisioner) (first_diag others) (of_may_fail provisioner.may_fail) (first_has others all.1)
  where
    of_may_fail : (b : Bool) → MayHaveObjects (cond b None provisioner.failed)
    of_may_fail true = tt
    of_may_fail false = all.0

pub outcome_has : (plan : SavedPlan) (bytes : Option (List ℕ)) (script : OutcomeMap) → given_script plan bytes ≡ Ok script → (c k : ℕ)
    → HasObjects (failure_diag (outcome_of script c k)) × HasObjects (warning_of (outcome_of script c k).result)
outcome_has plan bytes script e c k =
    let outcome = outcome_of script c k in
    let has = unwrapped AreObjects (stated_outcome script c k) default_outcome (given_objects plan bytes script e c k) default_has in
    let ends = ending_has outcome.result has.result in (
      unwrapped HasObjects _ no_diag (first_of_two HasObjects (diag_of_ending outcome.result) (first_diag outcome.provisioners) ends.0 (first_has outcome.provisioners has.provisioners)) nothing_has,
      unwrapped HasObjects (warning_in outcome.result) no_diag ends.1 nothing_has,
    )
