-- In a script that was read, each provisioner has a name. So has each provisioner whose event can
-- happen.
use Rattle.std.proofs.Common.{◌≡◌, ◌≢◌, ℕ, zero, suc, ◌+◌, ◌==◌, List, [], ◌∷◌, codes, cond, find, length, map, nat_lt, slice_get, unwrap_or, Bool, true, false, Option, Some, None, Ok, Err}
use Rattle.std.specs.Prelude.{◌&&◌, ◌||◌, IfOk, IfSome, is_some, not, option_map, sum_by}
use Rattle.std.specs.Option.{option_map_or}
use Rattle.std.specs.List.{AllByRecursion, filter_map, list_any, position_from, range_with_len}
use Rattle.serde_json.specs.Data.{Data}
use Rattle.serde_json.specs.Find.{as_array}
use Rattle.apply_json.specs.Tree.{list_of, items_or_empty, member_of, non_empty_text_of, text_of, text_or, unless_empty}
use Rattle.apply_json.specs.Verbatim.{mixed_tree_of}
use Rattle.apply_model.specs.declared.plan.step_kind.StepKind.{StepKind}
use Rattle.apply_model.specs.declared.script.ending.Ending.{Ending}
use Rattle.apply_model.specs.declared.script.outcome.Outcome.{Outcome}
use Rattle.apply_model.specs.declared.script.provisioner.Provisioner.{Provisioner}
use Rattle.apply_model.specs.declared.script.script_step.ScriptStep.{ScriptStep}
use Rattle.apply_model.specs.declared.script.wait.Wait.{Wait}
use Rattle.apply_model.specs.Plan.ResourceChange.{ResourceChange}
use Rattle.apply_model.specs.Plan.SavedPlan.{SavedPlan}
use Rattle.apply_model.specs.Script.Outcome.{default_outcome, is_failed, is_warned, makes_fail, ran}
use Rattle.apply_model.specs.Script.OutcomeMap.{OutcomeMap, outcome_of, stated_outcome, stated_step, stated_steps}
use Rattle.apply_model.specs.Script.Step.{answer_to}
use Rattle.apply_events.specs.declared.event.Event.{Event}
use Rattle.apply_events.specs.declared.what.What.{What}
use Rattle.apply_events.specs.declared.what.What.TheVariants.{Start, Progress, Complete, Errored, ErrorNote, WarnNote, Halted, ProvisionStart, ProvisionOutput, ProvisionComplete, ProvisionErrored}
use Rattle.apply_events.specs.Fits.{Fits, can_happen}
use Rattle.apply_events.specs.Step.{kinds_applied}
use Rattle.apply_plan.specs.declared.script.script_error.ScriptError.{ScriptError}
use Rattle.apply_plan.specs.declared.script.script_error.ScriptError.TheVariants.{BadShape, Duplicate, NeverBegins, NotJson, TooLarge, UnknownChange}
use Rattle.apply_plan.specs.Results.{all_or_first, each_with_earlier, or_refuse, unless_refused}
use Rattle.apply_plan.specs.Script.Entry.{Entry, EntryStep, all_some, answered_with, diag_or_none, each_of, ending_of, entry_of, flag_or_false, is_bare, is_verbatim_name, may_fail_or_not, output_from, provisioner_from, seconds_of, skipped_with, step_from, timed_outputs, wait_from}
use Rattle.apply_plan.specs.Script.OutcomeMap.{ResolvedEntry, by_number, change_of_entry, count_in, elements_of, entry_at, is_stuck, names_change, outcomes_of, resolved_by, script_of, script_of_entries, script_of_tree}
use Rattle.apply_plan.specs.Script.Refusals.{fault_of_entry}
use Rattle.apply_plan.specs.Script.WaitedStep.{resolved_step, step_waited, with_waits}
use Rattle.laws_check.proofs.Given.{AreAnswers, all_given, any_given, each_answered, gone_on, held_at, is_answered, next_of, refused_or, then_of}
use Rattle.laws_check.proofs.ReadBytes.{made_of_verbatim}
use Rattle.laws_lines.specs.Stated.{IsNamed}

-- ---- a provisioner

abbrev HasName : Provisioner → Type 0
HasName provisioner = provisioner.name ≢ []

filled : (text : List ℕ) → IfSome (unless_empty text) (λ name. name ≢ [])
filled [] = tt
filled (byte ∷ bytes) = λ e. absurd cc

named_text : (name : List ℕ) (d : Data) → IfSome (non_empty_text_of name d) (λ name. name ≢ [])
named_text name d = next_of (λ _. Unit {0}) (λ name. name ≢ []) (text_of name d) unless_empty (any_given (text_of name d)) (λ text u. filled text)

provisioner_named : (d : Data) → IfSome (provisioner_from d) HasName
unfolding provisioner_from
provisioner_named d =
    next_of (λ name. name ≢ []) HasName (non_empty_text_of (codes "provisioner") d) _ (named_text (codes "provisioner") d)
    (λ name is. next_of (λ _. Unit {0}) HasName (seconds_of d) _ (any_given (seconds_of d))
    (λ seconds u. next_of (λ _. Unit {0}) HasName (diag_or_none (member_of (codes "failed") d)) _ (any_given (diag_or_none (member_of (codes "failed") d)))
    (λ failed u. next_of (λ _. Unit {0}) HasName (each_of output_from (member_of (codes "output") d)) _ (any_given (each_of output_from (member_of (codes "output") d)))
    (λ items u. next_of (λ _. Unit {0}) HasName (timed_outputs seconds items) _ (any_given (timed_outputs seconds items))
    (λ output u. next_of (λ _. Unit {0}) HasName (may_fail_or_not (member_of (codes "on_failure") d)) _ (any_given (may_fail_or_not (member_of (codes "on_failure") d)))
    (λ may_fail u. is))))))

-- ---- a step

abbrev pub AreNamed : Outcome → Type 0
AreNamed outcome = AllByRecursion HasName outcome.provisioners

all_any : {A : Type 0} (xs : List A) → AllByRecursion (λ _. Unit {0}) xs
all_any [] = tt
all_any (x ∷ xs) = (tt, all_any xs)

each_named : {A : Type 0} (P : A → Type 0) (part : Data → Option A) (located : Option Data) → ((d : Data) → IfSome (part d) P) → IfSome (each_of part located) (AllByRecursion P)
each_named P part located step =
    next_of (λ _. Unit {0}) (AllByRecursion P) (items_or_empty located) _ (any_given (items_or_empty located)) (λ items u. all_given (λ _. Unit {0}) P part (list_of items) (λ d u. step d) (all_any (list_of items)))

abbrev StepNamed : EntryStep → Type 0
StepNamed step = IfSome step.outcome AreNamed

step_named : (d : Data) → IfSome (step_from d) StepNamed
unfolding step_from
step_named d =
    next_of (λ _. Unit {0}) StepNamed (flag_or_false (member_of (codes "skipped") d)) _ (any_given (flag_or_false (member_of (codes "skipped") d)))
    (λ skipped u. next_of (λ _. Unit {0}) StepNamed (ending_of d) _ (any_given (ending_of d))
    (λ result u. next_of (AllByRecursion HasName) StepNamed (each_of provisioner_from (member_of (codes "provisioners") d)) _ (each_named HasName provisioner_from (member_of (codes "provisioners") d) provisioner_named)
    (λ provisioners all. next_of (λ _. Unit {0}) StepNamed (each_of wait_from (member_of (codes "after") d)) _ (any_given (each_of wait_from (member_of (codes "after") d)))
    (λ after u. next_of (λ outcome. IfSome outcome AreNamed) StepNamed _ _ (of_kind skipped (is_some (member_of (codes "seconds") d)) (seconds_of d) result provisioners all) (λ outcome has. has)))))
  where
    of_none : (b : Bool) → IfSome (cond b None (Some None)) (λ (outcome : Option Outcome). IfSome outcome AreNamed)
    of_none true = tt
    of_none false = tt

    of_one : (b : Bool) (outcome : Outcome) → AreNamed outcome → IfSome (option_map Some (cond b None (Some outcome))) (λ (outcome : Option Outcome). IfSome outcome AreNamed)
    of_one true outcome has = tt
    of_one false outcome has = has

    of_kind : (skipped stated : Bool) (seconds : Option ℕ) (result : Ending) (provisioners : List Provisioner) → AllByRecursion HasName provisioners
        → IfSome (cond skipped (skipped_with stated result provisioners) (answered_with seconds result provisioners)) (λ (outcome : Option Outcome). IfSome outcome AreNamed)
    of_kind true stated seconds result provisioners all = of_none (stated || (not (is_bare result) || nat_lt 0 (length provisioners)))
    of_kind false stated None result provisioners all = tt
    of_kind false stated (Some seconds) result provisioners all =
        of_one ((is_failed result || is_warned result) && nat_lt 0 (length provisioners)) (record { seconds = seconds; provisioners = provisioners; result = result; after = [] }) all

-- ---- an entry

entry_named : (d : Data) → IfSome (entry_of d) (λ entry. AllByRecursion StepNamed entry.steps)
unfolding entry_of
entry_named d =
    let Q = λ (entry : Entry). AllByRecursion StepNamed entry.steps in
    next_of (λ _. Unit {0}) Q (text_of (codes "address") d) _ (any_given (text_of (codes "address") d))
    (λ address u. next_of (λ _. Unit {0}) Q (text_or [] (member_of (codes "deposed") d)) _ (any_given (text_or [] (member_of (codes "deposed") d)))
    (λ deposed u. next_of (λ _. Unit {0}) Q (member_of (codes "steps") d) _ (any_given (member_of (codes "steps") d))
    (λ list u. next_of (λ _. Unit {0}) Q (as_array list) _ (any_given (as_array list))
    (λ items u. next_of (AllByRecursion StepNamed) Q (all_some (map step_from (list_of items))) _ (all_given (λ _. Unit {0}) StepNamed step_from (list_of items) (λ d u. step_named d) (all_any (list_of items))) (λ steps has. has)))))

abbrev StatedNamed : ScriptStep → Type 0
StatedNamed step = IfSome (answer_to step) AreNamed

abbrev EntryNamed : ResolvedEntry → Type 0
EntryNamed one = AllByRecursion StatedNamed one.steps

waits_named : (outcome : Option Outcome) (waits : List Wait) → IfSome outcome AreNamed → StatedNamed (with_waits outcome waits)
waits_named None waits has = tt
waits_named (Some outcome) waits has = has

resolved_named : (changes : List ResourceChange) (steps : List EntryStep) → AllByRecursion StepNamed steps → AllByRecursion StatedNamed (map (resolved_step changes) steps)
resolved_named changes [] has = tt
resolved_named changes (step ∷ steps) has = (waits_named step.outcome (filter_map (step_waited changes) step.after) has.0, resolved_named changes steps has.1)

at_named : (changes : List ResourceChange) (before : List Data) (d : Data) → IfOk (entry_at changes before d) EntryNamed
unfolding entry_at
at_named changes before d =
    then_of (λ entry. AllByRecursion StepNamed entry.steps) EntryNamed (or_refuse (BadShape (Some n)) (entry_of d)) _ (refused_or (λ entry. AllByRecursion StepNamed entry.steps) (BadShape (Some n)) (entry_of d) (entry_named d))
    (λ entry has. then_of (λ _. Unit {0}) EntryNamed (or_refuse (UnknownChange n) (change_of_entry changes entry)) _ (refused_or (λ _. Unit {0}) (UnknownChange n) (change_of_entry changes entry) (any_given (change_of_entry changes entry)))
    (λ located u. of_tests located.0 entry.steps has (list_any (names_change located.1) before) (fault_of_entry n changes (sum_by count_in before) located.1 entry.steps)))
  where
    n : ℕ
    n = length before

    of_tests : (number : ℕ) (steps : List EntryStep) → AllByRecursion StepNamed steps → (b : Bool) (fault : Option ScriptError) → IfOk (cond b (Err (Duplicate n)) (unless_refused fault (resolved_by changes number steps))) EntryNamed
    of_tests number steps has true fault = tt
    of_tests number steps has false (Some fault) = tt
    of_tests number steps has false None = resolved_named changes steps has

-- ---- the script

-- each outcome that is given
abbrev pub IsNamedScript : OutcomeMap → Type 0
IsNamedScript script = (c k : ℕ) → IfSome (stated_outcome script c k) AreNamed

all_stated : (entries : List ResolvedEntry) (c : ℕ) → AllByRecursion EntryNamed entries → IfSome (outcomes_of entries c) (AllByRecursion StatedNamed)
all_stated [] c h = tt
all_stated (x ∷ entries) c h = of_test (x.change == c) (all_stated entries c h.1)
  where
    of_test : (b : Bool) → IfSome (outcomes_of entries c) (AllByRecursion StatedNamed)
        → IfSome (option_map (λ (entry : ResolvedEntry). entry.steps) (cond b (Some x) (find (λ (entry : ResolvedEntry). entry.change == c) entries))) (AllByRecursion StatedNamed)
    of_test true rest = h.0
    of_test false rest = rest

by_number_named : (low n : ℕ) (entries : List ResolvedEntry) → AllByRecursion EntryNamed entries → AllByRecursion (λ stated. IfSome stated (AllByRecursion StatedNamed)) (map (outcomes_of entries) (range_with_len low n))
by_number_named low zero entries h = tt
by_number_named low (suc n) entries h = (all_stated entries low h, by_number_named (low + 1) n entries h)

entries_named : (count : ℕ) (entries : List ResolvedEntry) → AllByRecursion EntryNamed entries → IsNamedScript (by_number count entries)
entries_named count entries h c k =
    let script = by_number count entries in
    gone_on StatedNamed AreNamed answer_to (stated_step script c k) (λ step stated. stated)
    (gone_on (AllByRecursion StatedNamed) StatedNamed _ (stated_steps script c) (λ steps all. held_at StatedNamed steps k all)
    (gone_on (λ stated. IfSome stated (AllByRecursion StatedNamed)) (AllByRecursion StatedNamed) (λ stated. stated) (slice_get script c) (λ stated all. all)
    (held_at (λ stated. IfSome stated (AllByRecursion StatedNamed)) script c (by_number_named 0 count entries h))))

unless_named : (o : Option ScriptError) (script : OutcomeMap) → IsNamedScript script → IfOk (unless_refused o script) IsNamedScript
unless_named None script h = h
unless_named (Some refusal) script h = tt

all_entries : (plan : SavedPlan) (elements : List Data) → IfOk (script_of_entries plan elements) IsNamedScript
unfolding script_of_entries
all_entries plan elements =
    then_of (AreAnswers EntryNamed elements) IsNamedScript (all_or_first (each_with_earlier (entry_at plan.changes) elements)) _
    (each_answered (λ _. Unit {0}) EntryNamed (entry_at plan.changes) elements (λ before d u. at_named plan.changes before d) (all_any elements))
    (λ entries stated. unless_named (option_map NeverBegins (position_from (is_stuck (by_number (length plan.changes) entries)) 0 entries)) (by_number (length plan.changes) entries) (entries_named (length plan.changes) entries stated.0))

tree_named : (plan : SavedPlan) (d : Data) → IfOk (script_of_tree plan d) IsNamedScript
unfolding script_of_tree
tree_named plan d =
    then_of (λ _. Unit {0}) IsNamedScript (or_refuse (BadShape None) (elements_of d)) (λ elements. script_of_entries plan (list_of elements))
    (refused_or (λ _. Unit {0}) (BadShape None) (elements_of d) (any_given (elements_of d)))
    (λ elements u. all_entries plan (list_of elements))

pub script_named : (plan : SavedPlan) (bytes : List ℕ) (script : OutcomeMap) → script_of plan bytes ≡ Ok script → IsNamedScript script
unfolding script_of
script_named plan bytes script e =
    is_answered IsNamedScript _ script (made_of_verbatim (λ _. Unit {0}) IsNamedScript is_verbatim_name TooLarge NotJson (script_of_tree plan) bytes (any_given (mixed_tree_of is_verbatim_name bytes)) (λ d u. tree_named plan d)) e

-- the empty script
pub nothing_named : IsNamedScript []
nothing_named c k = tt

-- ---- events that can happen

-- a provisioner that runs has its name
runs_named : (ps : List Provisioner) (i : ℕ) (test : Provisioner → Bool) → AllByRecursion HasName ps → option_map_or test (slice_get (ran ps) i) false ≡ true → option_map_or (λ (p : Provisioner). p.name) (slice_get ps i) [] ≢ []
runs_named [] i test named happens = absurd cc
runs_named (p ∷ ps) zero test named happens = named.0
runs_named (p ∷ ps) (suc i) test named happens = of_test (makes_fail p) (runs_named ps i test named.1) happens
  where
    of_test : (b : Bool) → (option_map_or test (slice_get (ran ps) i) false ≡ true → option_map_or (λ (p : Provisioner). p.name) (slice_get ps i) [] ≢ []) → option_map_or test (slice_get (p ∷ cond b [] (ran ps)) (suc i)) false ≡ true → option_map_or (λ (p : Provisioner). p.name) (slice_get (p ∷ ps) (suc i)) [] ≢ []
    of_test true rest happens = absurd cc
    of_test false rest happens = rest happens

what_named : (kind : StepKind) (outcome : Outcome) (what : What) → AreNamed outcome → can_happen kind outcome what ≡ true → IsNamed outcome what
what_named kind outcome Start named happens = tt
what_named kind outcome (Progress s) named happens = tt
what_named kind outcome (Complete s) named happens = tt
what_named kind outcome (Errored s) named happens = tt
what_named kind outcome ErrorNote named happens = tt
what_named kind outcome WarnNote named happens = tt
what_named kind outcome (Halted phase hook) named happens = tt
what_named kind outcome (ProvisionStart i) named happens = runs_named outcome.provisioners i _ named happens
what_named kind outcome (ProvisionOutput i line) named happens = runs_named outcome.provisioners i _ named happens
what_named kind outcome (ProvisionComplete i) named happens = runs_named outcome.provisioners i _ named happens
what_named kind outcome (ProvisionErrored i) named happens = runs_named outcome.provisioners i _ named happens

of_given : (given : Option Outcome) → IfSome given AreNamed → AreNamed (unwrap_or given default_outcome)
of_given None named = tt
of_given (Some outcome) named = named

pub event_named : (plan : SavedPlan) (script : OutcomeMap) (e : Event) → IsNamedScript script → Fits plan script e → IsNamed (outcome_of script e.change e.step) e.what
event_named plan script e named fits = of_kind (slice_get (kinds_applied plan script e.change) e.step) fits.happens
  where
    of_kind : (o : Option StepKind) → option_map_or (λ kind. can_happen kind (outcome_of script e.change e.step) e.what) o false ≡ true → IsNamed (outcome_of script e.change e.step) e.what
    of_kind None happens = absurd cc
    of_kind (Some kind) happens = what_named kind (outcome_of script e.change e.step) e.what (of_given (stated_outcome script e.change e.step) (named e.change e.step)) happens
