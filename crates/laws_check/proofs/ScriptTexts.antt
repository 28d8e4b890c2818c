-- The texts of a script that was read are UTF-8, the verbatim texts of its diagnostics are values,
-- and its steps are within the limits.
use Rattle.std.proofs.Common.{◌≡◌, ℕ, zero, suc, ◌+◌, ◌==◌, List, [], ◌∷◌, IsUtf8, codes, cond, find, length, map, nat_lt, slice_get, Bool, true, false, Option, Some, None, Ok, Err, refl}
use Rattle.std.specs.Prelude.{◌&&◌, ◌||◌, IfOk, IfSome, is_some, not, option_map, sum_by}
use Rattle.std.specs.Option.{option_map_or}
use Rattle.std.specs.List.{AllByRecursion, filter_map, list_any, position_from, range_with_len}
use Rattle.std.proofs.lemmas.Str.{IsUtf8-nil}
use Rattle.serde_json.specs.Data.{Data}
use Rattle.serde_json.specs.Find.{as_array, as_str}
use Rattle.apply_json.specs.Tree.{items_or_empty, list_of, member_of, non_empty_text_of, text_of, text_or, unless_empty}
use Rattle.apply_model.specs.declared.script.diag.Diag.{Diag}
use Rattle.apply_model.specs.declared.script.ending.Ending.{Ending}
use Rattle.apply_model.specs.declared.script.ending.Ending.TheVariants.{Done, Failed, Warned}
use Rattle.apply_model.specs.declared.script.outcome.Outcome.{Outcome}
use Rattle.apply_model.specs.declared.script.provisioner.Provisioner.{Provisioner}
use Rattle.apply_model.specs.declared.script.timed_text.TimedText.{TimedText}
use Rattle.apply_model.specs.declared.script.script_step.ScriptStep.{ScriptStep}
use Rattle.apply_model.specs.declared.script.wait.Wait.{Wait}
use Rattle.apply_model.specs.Script.OutcomeMap.{stated_step}
use Rattle.apply_model.specs.Script.Step.{answer_to}
use Rattle.apply_plan.specs.declared.script.script_error.ScriptError.{ScriptError}
use Rattle.apply_plan.specs.declared.script.script_error.ScriptError.TheVariants.{TooLarge, NotJson, BadShape, UnknownChange, Duplicate, NeverBegins}
use Rattle.apply_plan.specs.Plan.ResourceChange.{ResourceChange}
use Rattle.apply_plan.specs.Plan.SavedPlan.{SavedPlan}
use Rattle.apply_plan.specs.Results.{all_or_first, each_with_earlier, or_refuse, unless_refused}
use Rattle.apply_plan.specs.Script.EntriesView.{IsWithin}
use Rattle.apply_plan.specs.Script.Entry.{Entry, EntryStep, Failure, OutputItem, all_some, diag_from, answered_with, diag_or_none, each_of, ending_from, ending_of, entry_of, failure_from, failure_or_none, flag_or_false, is_verbatim_name, may_fail_or_not, number_or_none, object_or_none, only_warns_or_not, output_from, output_of_members, provisioner_from, is_bare, seconds_of, skipped_with, step_from, timed, timed_outputs, wait_from}
use Rattle.apply_plan.specs.Script.Outcome.{IsBounded, are_in_time, is_failed, is_warned}
use Rattle.apply_plan.specs.Script.OutcomeMap.{OutcomeMap, ResolvedEntry, by_number, change_of_entry, count_in, elements_of, entry_at, stated_outcome, is_stuck, names_change, stated_steps, resolved_by, outcomes_of, script_of, script_of_entries, script_of_tree}
use Rattle.apply_plan.specs.Script.Refusals.{fault_of_entry}
use Rattle.apply_plan.specs.Script.WaitedStep.{resolved_step, step_waited, with_waits}
use Rattle.apply_plan.proofs.Scripts.Limits.{said_is_within}
use Rattle.laws_check.proofs.Given.{AreAnswers, all_given, any_given, each_answered, each_held, gone_on, held_at, is_answered, mapped, next_of, refused_or, then_of}
use Rattle.laws_check.proofs.VerbatimDiagnostics.{HasStatedDiagnostic, MayKeep, has_verbatim}
use Rattle.laws_check.proofs.LookUps.{filled_utf8, member_legible, non_empty_utf8, str_utf8, text_or_utf8, text_utf8}
use Rattle.laws_check.proofs.OwnMembers.{AreHeld, IsHeld, IsScriptTree, array_held, elements_held, items_held, list_held, member_held, object_own, script_tree}
use Rattle.laws_check.proofs.ReadBytes.{made_of_verbatim}

-- ---- how a step ends

diag_texts : (d : Data) → IsHeld d → IfSome (diag_from d) HasStatedDiagnostic
diag_texts d h =
    next_of IsUtf8 HasStatedDiagnostic (text_of (codes "summary") d) _ (text_utf8 (codes "summary") d h.0)
    (λ summary summary_is. next_of IsUtf8 HasStatedDiagnostic (text_or [] (member_of (codes "detail") d)) _ (text_or_utf8 [] (member_of (codes "detail") d) IsUtf8-nil (member_legible (codes "detail") d h.0))
    (λ detail detail_is. next_of MayKeep HasStatedDiagnostic (object_or_none (member_of (codes "range") d)) _ (object_own (codes "range") d refl h)
    (λ range range_is. next_of MayKeep HasStatedDiagnostic (object_or_none (member_of (codes "snippet") d)) _ (object_own (codes "snippet") d refl h)
    (λ snippet snippet_is. (record { summary = summary_is; detail = detail_is }, has_verbatim summary detail range snippet range_is snippet_is)))))

-- where there is a diagnostic
abbrev pub MayHaveDiag : Option Diag → Type 0
MayHaveDiag diag = IfSome diag HasStatedDiagnostic

some_diag : (located : Option Data) → IfSome located IsHeld → IfSome (diag_or_none located) MayHaveDiag
some_diag None h = tt
some_diag (Some d) h = mapped HasStatedDiagnostic MayHaveDiag Some (diag_from d) (λ diag texts. texts) (diag_texts d h)

abbrev pub HasEndingTexts : Ending → Type 0
HasEndingTexts (Done id warning) = IfSome id IsUtf8 × MayHaveDiag warning
HasEndingTexts (Failed diag) = HasStatedDiagnostic diag
HasEndingTexts (Warned diag) = HasStatedDiagnostic diag

-- where the provider fails
abbrev pub MayHaveFailure : Option Failure → Type 0
MayHaveFailure failure = IfSome failure (λ failure. HasStatedDiagnostic failure.diag)

failure_texts : (d : Data) → IsHeld d → IfSome (failure_from d) (λ failure. HasStatedDiagnostic failure.diag)
failure_texts d h =
    let Q = λ (failure : Failure). HasStatedDiagnostic failure.diag in
    next_of HasStatedDiagnostic Q (diag_from d) _ (diag_texts d h)
    (λ diag texts. next_of (λ _. Unit {0}) Q (only_warns_or_not (member_of (codes "severity") d)) _ (any_given (only_warns_or_not (member_of (codes "severity") d))) (λ only_warns u. texts))

pub some_failure : (located : Option Data) → IfSome located IsHeld → IfSome (failure_or_none located) MayHaveFailure
some_failure None h = tt
some_failure (Some d) h = mapped (λ (failure : Failure). HasStatedDiagnostic failure.diag) MayHaveFailure Some (failure_from d) (λ failure texts. texts) (failure_texts d h)

ended : (id : Option (List ℕ)) (warning : Option Diag) (failed : Option Failure) → IfSome id IsUtf8 → MayHaveDiag warning → MayHaveFailure failed → IfSome (ending_from id warning failed) HasEndingTexts
ended id warning None named warned why = (named, warned)
ended None None (Some failure) named warned why = either failure.only_warns
  where
    either : (b : Bool) → HasEndingTexts (cond b (Warned failure.diag) (Failed failure.diag))
    either true = why
    either false = why
ended None (Some warning) (Some failure) named warned why = tt
ended (Some id) warning (Some failure) named warned why = tt

ending_texts : (d : Data) → IsHeld d → IfSome (ending_of d) HasEndingTexts
unfolding ending_of
ending_texts d h =
    next_of IsUtf8 HasEndingTexts (text_or [] (member_of (codes "id") d)) _ (text_or_utf8 [] (member_of (codes "id") d) IsUtf8-nil (member_legible (codes "id") d h.0))
    (λ id id_is. next_of MayHaveDiag HasEndingTexts (diag_or_none (member_of (codes "warning") d)) _ (some_diag (member_of (codes "warning") d) (member_held (codes "warning") d h))
    (λ warning warned. next_of MayHaveFailure HasEndingTexts (failure_or_none (member_of (codes "failed") d)) _ (some_failure (member_of (codes "failed") d) (member_held (codes "failed") d h))
    (λ failed why. ended (unless_empty id) warning failed (filled_utf8 id id_is) warned why)))

-- ---- provisioners

each_legible : {A : Type 0} (P : A → Type 0) (part : Data → Option A) (located : Option Data) → ((d : Data) → IsHeld d → IfSome (part d) P) → IfSome located IsHeld → IfSome (each_of part located) (AllByRecursion P)
each_legible P part located step h =
    next_of AreHeld (AllByRecursion P) (items_or_empty located) _ (items_held located h) (λ items legible. all_given IsHeld P part (list_of items) step (list_held items legible))

-- ---- what a provisioner puts out

abbrev HasItemText : OutputItem → Type 0
HasItemText item = IsUtf8 item.text

abbrev pub HasTimedText : TimedText → Type 0
HasTimedText timed = IsUtf8 timed.text

members_texts : (d : Data) → IsHeld d → IfSome (output_of_members d) HasItemText
unfolding output_of_members
members_texts d h =
    next_of IsUtf8 HasItemText (text_of (codes "text") d) _ (text_utf8 (codes "text") d h.0)
    (λ text is. next_of (λ _. Unit {0}) HasItemText (number_or_none (member_of (codes "after") d)) _ (any_given (number_or_none (member_of (codes "after") d))) (λ after u. is))

item_texts : (d : Data) → IsHeld d → IfSome (output_from d) HasItemText
item_texts d h = either (as_str d) (str_utf8 d h.0)
  where
    either : (located : Option (List ℕ)) → IfSome located IsUtf8 → IfSome (option_map_or (λ text. Some (record { after = None; text = text })) located (output_of_members d)) HasItemText
    either None is = members_texts d h
    either (Some text) is = is

all_timed : (seconds : ℕ) (items : List OutputItem) → AllByRecursion HasItemText items → AllByRecursion HasTimedText (map (timed seconds) items)
all_timed seconds [] h = tt
all_timed seconds (item ∷ items) h = (h.0, all_timed seconds items h.1)

timed_texts : (seconds : ℕ) (items : List OutputItem) → AllByRecursion HasItemText items → IfSome (timed_outputs seconds items) (AllByRecursion HasTimedText)
timed_texts seconds items h = either (are_in_time 0 seconds (map (timed seconds) items))
  where
    either : (b : Bool) → IfSome (cond b (Some (map (timed seconds) items)) None) (AllByRecursion HasTimedText)
    either true = all_timed seconds items h
    either false = tt

pub record HasProvisionerTexts (provisioner : Provisioner) : Type 0 where
  pub name : IsUtf8 provisioner.name
  pub output : AllByRecursion HasTimedText provisioner.output
  pub failed : MayHaveDiag provisioner.failed

provisioner_texts : (d : Data) → IsHeld d → IfSome (provisioner_from d) HasProvisionerTexts
unfolding provisioner_from
provisioner_texts d h =
    next_of IsUtf8 HasProvisionerTexts (non_empty_text_of (codes "provisioner") d) _ (non_empty_utf8 (codes "provisioner") d h.0)
    (λ name name_is. next_of (λ _. Unit {0}) HasProvisionerTexts (seconds_of d) _ (any_given (seconds_of d))
    (λ seconds u. next_of MayHaveDiag HasProvisionerTexts (diag_or_none (member_of (codes "failed") d)) _ (some_diag (member_of (codes "failed") d) (member_held (codes "failed") d h))
    (λ failed why. next_of (AllByRecursion HasItemText) HasProvisionerTexts (each_of output_from (member_of (codes "output") d)) _ (each_legible HasItemText output_from (member_of (codes "output") d) item_texts (member_held (codes "output") d h))
    (λ items items_are. next_of (AllByRecursion HasTimedText) HasProvisionerTexts (timed_outputs seconds items) _ (timed_texts seconds items items_are)
    (λ output output_is. next_of (λ _. Unit {0}) HasProvisionerTexts (may_fail_or_not (member_of (codes "on_failure") d)) _ (any_given (may_fail_or_not (member_of (codes "on_failure") d)))
    (λ may_fail u'. record { name = name_is; output = output_is; failed = why }))))))

-- ---- a step

pub record HasStepTexts (outcome : Outcome) : Type 0 where
  pub result : HasEndingTexts outcome.result
  pub provisioners : AllByRecursion HasProvisionerTexts outcome.provisioners

-- a step with the items of its `after`, which may be skipped
abbrev pub HasEntryStepTexts : EntryStep → Type 0
HasEntryStepTexts step = IfSome step.outcome HasStepTexts

step_texts : (d : Data) → IsHeld d → IfSome (step_from d) HasEntryStepTexts
unfolding step_from
step_texts d h =
    next_of (λ _. Unit {0}) HasEntryStepTexts (flag_or_false (member_of (codes "skipped") d)) _ (any_given (flag_or_false (member_of (codes "skipped") d)))
    (λ skipped u. next_of HasEndingTexts HasEntryStepTexts (ending_of d) _ (ending_texts d h)
    (λ result ends. next_of (AllByRecursion HasProvisionerTexts) HasEntryStepTexts (each_of provisioner_from (member_of (codes "provisioners") d)) _
    (each_legible HasProvisionerTexts provisioner_from (member_of (codes "provisioners") d) provisioner_texts (member_held (codes "provisioners") d h))
    (λ provisioners all. next_of (λ _. Unit {0}) HasEntryStepTexts (each_of wait_from (member_of (codes "after") d)) _ (any_given (each_of wait_from (member_of (codes "after") d)))
    (λ after u'. next_of (λ outcome. IfSome outcome HasStepTexts) HasEntryStepTexts _ _ (of_kind skipped (is_some (member_of (codes "seconds") d)) (seconds_of d) result provisioners ends all) (λ outcome has. has)))))
  where
    of_none : (b : Bool) → IfSome (cond b None (Some None)) (λ (outcome : Option Outcome). IfSome outcome HasStepTexts)
    of_none true = tt
    of_none false = tt

    of_one : (b : Bool) (outcome : Outcome) → HasStepTexts outcome → IfSome (option_map Some (cond b None (Some outcome))) (λ (outcome : Option Outcome). IfSome outcome HasStepTexts)
    of_one true outcome has = tt
    of_one false outcome has = has

    of_kind : (skipped stated : Bool) (seconds : Option ℕ) (result : Ending) (provisioners : List Provisioner) → HasEndingTexts result → AllByRecursion HasProvisionerTexts provisioners
        → IfSome (cond skipped (skipped_with stated result provisioners) (answered_with seconds result provisioners)) (λ (outcome : Option Outcome). IfSome outcome HasStepTexts)
    of_kind true stated seconds result provisioners ends all = of_none (stated || (not (is_bare result) || nat_lt 0 (length provisioners)))
    of_kind false stated None result provisioners ends all = tt
    of_kind false stated (Some seconds) result provisioners ends all =
        of_one ((is_failed result || is_warned result) && nat_lt 0 (length provisioners)) (record { seconds = seconds; provisioners = provisioners; result = result; after = [] }) (record { result = ends; provisioners = all })

entry_texts : (d : Data) → IsHeld d → IfSome (entry_of d) (λ entry. AllByRecursion HasEntryStepTexts entry.steps)
unfolding entry_of
entry_texts d h =
    let Q = λ (entry : Entry). AllByRecursion HasEntryStepTexts entry.steps in
    next_of (λ _. Unit {0}) Q (text_of (codes "address") d) _ (any_given (text_of (codes "address") d))
    (λ address u. next_of (λ _. Unit {0}) Q (text_or [] (member_of (codes "deposed") d)) _ (any_given (text_or [] (member_of (codes "deposed") d)))
    (λ deposed u. next_of IsHeld Q (member_of (codes "steps") d) _ (member_held (codes "steps") d h)
    (λ list legible. next_of AreHeld Q (as_array list) _ (array_held list legible)
    (λ items all. next_of (AllByRecursion HasEntryStepTexts) Q (all_some (map step_from (list_of items))) _ (all_given IsHeld HasEntryStepTexts step_from (list_of items) step_texts (list_held items all)) (λ steps has. has)))))

-- ---- the entries

-- a step of the script
pub record IsConsistent (outcome : Outcome) : Type 0 where
  pub texts : HasStepTexts outcome
  pub bounded : IsBounded outcome

-- a step of the script, which may be skipped
abbrev pub HasStatedTexts : ScriptStep → Type 0
HasStatedTexts step = IfSome (answer_to step) IsConsistent

-- an entry of the script
abbrev pub AreConsistent : ResolvedEntry → Type 0
AreConsistent one = AllByRecursion HasStatedTexts one.steps

-- a step with what it waits for
read_back_so : (outcome : Option Outcome) (waits : List Wait) → IfSome outcome HasStepTexts → IsWithin (with_waits outcome waits) → HasStatedTexts (with_waits outcome waits)
read_back_so None waits has within = tt
read_back_so (Some outcome) waits has within = record { texts = record { result = has.result; provisioners = has.provisioners }; bounded = within }

both_held : (changes : List ResourceChange) (steps : List EntryStep) → AllByRecursion HasEntryStepTexts steps → AllByRecursion IsWithin (map (resolved_step changes) steps) → AllByRecursion HasStatedTexts (map (resolved_step changes) steps)
both_held changes [] has within = tt
both_held changes (step ∷ steps) has within = (read_back_so step.outcome (filter_map (step_waited changes) step.after) has.0 within.0, both_held changes steps has.1 within.1)

entry_stated : (changes : List ResourceChange) (before : List Data) (d : Data) → IsHeld d → IfOk (entry_at changes before d) AreConsistent
unfolding entry_at
entry_stated changes before d h =
    then_of (λ entry. AllByRecursion HasEntryStepTexts entry.steps) AreConsistent (or_refuse (BadShape (Some n)) (entry_of d)) _
    (refused_or (λ entry. AllByRecursion HasEntryStepTexts entry.steps) (BadShape (Some n)) (entry_of d) (entry_texts d h))
    (λ entry has. then_of (λ _. Unit {0}) AreConsistent (or_refuse (UnknownChange n) (change_of_entry changes entry)) _ (refused_or (λ _. Unit {0}) (UnknownChange n) (change_of_entry changes entry) (any_given (change_of_entry changes entry)))
    (λ located u. of_tests located.0 located.1 entry.steps has (list_any (names_change located.1) before) (fault_of_entry n changes (sum_by count_in before) located.1 entry.steps) refl))
  where
    n : ℕ
    n = length before

    of_tests : (number : ℕ) (change : ResourceChange) (steps : List EntryStep) → AllByRecursion HasEntryStepTexts steps → (b : Bool) (fault : Option ScriptError) → fault_of_entry n changes (sum_by count_in before) change steps ≡ fault
        → IfOk (cond b (Err (Duplicate n)) (unless_refused fault (resolved_by changes number steps))) AreConsistent
    of_tests number change steps has true fault is = tt
    of_tests number change steps has false (Some fault) is = tt
    of_tests number change steps has false None is =
        both_held changes steps has (each_held IsWithin (map (resolved_step changes) steps) (said_is_within n changes (sum_by count_in before) change steps is))

-- ---- the script

all_stated : (entries : List ResolvedEntry) (c : ℕ) → AllByRecursion AreConsistent entries → IfSome (outcomes_of entries c) (AllByRecursion HasStatedTexts)
all_stated [] c h = tt
all_stated (x ∷ entries) c h = of_test (x.change == c) (all_stated entries c h.1)
  where
    of_test : (b : Bool) → IfSome (outcomes_of entries c) (AllByRecursion HasStatedTexts)
        → IfSome (option_map (λ (entry : ResolvedEntry). entry.steps) (cond b (Some x) (find (λ (entry : ResolvedEntry). entry.change == c) entries))) (AllByRecursion HasStatedTexts)
    of_test true rest = h.0
    of_test false rest = rest

-- each outcome that is given
abbrev pub IsReadableScript : OutcomeMap → Type 0
IsReadableScript script = (c k : ℕ) → IfSome (stated_outcome script c k) IsConsistent

by_number_stated : (low n c : ℕ) (entries : List ResolvedEntry) → AllByRecursion AreConsistent entries → AllByRecursion (λ script_stated. IfSome script_stated (AllByRecursion HasStatedTexts)) (map (outcomes_of entries) (range_with_len low n))
by_number_stated low zero c entries h = tt
by_number_stated low (suc n) c entries h = (all_stated entries low h, by_number_stated (low + 1) n c entries h)

entries_readable : (count : ℕ) (entries : List ResolvedEntry) → AllByRecursion AreConsistent entries → IsReadableScript (by_number count entries)
entries_readable count entries h c k =
    let script = by_number count entries in
    gone_on HasStatedTexts IsConsistent answer_to (stated_step script c k) (λ step stated. stated)
    (gone_on (AllByRecursion HasStatedTexts) HasStatedTexts _ (stated_steps script c) (λ steps all. held_at HasStatedTexts steps k all)
    (gone_on (λ script_stated. IfSome script_stated (AllByRecursion HasStatedTexts)) (AllByRecursion HasStatedTexts) (λ script_stated. script_stated) (slice_get script c) (λ script_stated all. all)
    (held_at (λ script_stated. IfSome script_stated (AllByRecursion HasStatedTexts)) script c (by_number_stated 0 count c entries h))))

unless_held : (P : OutcomeMap → Type 0) (o : Option ScriptError) (script : OutcomeMap) → P script → IfOk (unless_refused o script) P
unless_held P None script h = h
unless_held P (Some refusal) script h = tt

all_entries : (plan : SavedPlan) (elements : List Data) → AllByRecursion IsHeld elements → IfOk (script_of_entries plan elements) IsReadableScript
unfolding script_of_entries
all_entries plan elements h =
    then_of (AreAnswers AreConsistent elements) IsReadableScript (all_or_first (each_with_earlier (entry_at plan.changes) elements)) _ (each_answered IsHeld AreConsistent (entry_at plan.changes) elements (entry_stated plan.changes) h)
    (λ entries script_stated. unless_held IsReadableScript (option_map NeverBegins (position_from (is_stuck (by_number (length plan.changes) entries)) 0 entries)) (by_number (length plan.changes) entries)
    (entries_readable (length plan.changes) entries script_stated.0))

tree_readable : (plan : SavedPlan) (d : Data) → IsScriptTree d → IfOk (script_of_tree plan d) IsReadableScript
unfolding script_of_tree
tree_readable plan d h =
    then_of AreHeld IsReadableScript (or_refuse (BadShape None) (elements_of d)) (λ elements. script_of_entries plan (list_of elements))
    (refused_or AreHeld (BadShape None) (elements_of d) (elements_held (codes "changes") d h))
    (λ elements held. all_entries plan (list_of elements) (list_held elements held))

pub script_readable : (plan : SavedPlan) (bytes : List ℕ) (script : OutcomeMap) → script_of plan bytes ≡ Ok script → IsReadableScript script
unfolding script_of
script_readable plan bytes script e =
    is_answered IsReadableScript _ script (made_of_verbatim IsScriptTree IsReadableScript is_verbatim_name TooLarge NotJson (script_of_tree plan) bytes (script_tree bytes) (tree_readable plan)) e

-- the empty script
pub nothing_readable : IsReadableScript []
nothing_readable c k = tt
