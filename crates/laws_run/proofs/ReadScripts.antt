-- A script that was read names steps of its plan alone, and each step of the plan could begin.
use Rattle.std.proofs.Common.{◌≡◌, ◌≢◌, ℕ, zero, suc, ◌+◌, ◌<◌, ◌≤◌, ◌==◌, All, Bool, true, false, List, [], ◌∷◌, cond, find, length, map, slice_get, take, unwrap_or, Option, Some, None, option_map, Ok, refl, sym, ap, ◌∙◌, subst, ⊎_elim, arith}
use Rattle.std.specs.Prelude.{IfSome, get_or, is_some, nat_lt, not, option_and_then, sum_by}
use Rattle.std.specs.List.{AllByRecursion, cons_option, enumerate_from, filter_map, list_any, position_from, range_with_len}
use Rattle.std.specs.Option.{option_map_or}
use Rattle.std.proofs.lemmas.Bool.{cases_Bool, cases_lt, ltb-false, ltb-true}
use Rattle.std.proofs.lemmas.Bool.Decides.{eqb_tells}
use Rattle.std.proofs.lemmas.List.{length-map}
use Rattle.std.proofs.lemmas.List.Elements.{All-cons, All-nil}
use Rattle.std.proofs.lemmas.List.Folds.{list_any_at}
use Rattle.std.proofs.lemmas.List.FromFn.{get_or-range_with_len, length-range_with_len}
use Rattle.std.proofs.lemmas.Option.{get_or_from_slice_get, same_Some, slice_get_past, slice_get_within}
use Rattle.serde_json.specs.Data.{Data}
use Rattle.apply_json.specs.Verbatim.{mixed_tree_of}
use Rattle.apply_json.specs.Tree.{list_of}
use Rattle.apply_model.specs.declared.script.outcome.Outcome.{Outcome}
use Rattle.apply_model.specs.declared.script.script_step.ScriptStep.{ScriptStep}
use Rattle.apply_model.specs.declared.script.script_step.ScriptStep.TheVariants.{Answered, Skipped}
use Rattle.apply_model.specs.declared.script.wait.Wait.{Wait}
use Rattle.apply_model.specs.Plan.ResourceChange.{ResourceChange}
use Rattle.apply_model.specs.Plan.SavedPlan.{SavedPlan}
use Rattle.apply_model.specs.Script.Outcome.{default_outcome}
use Rattle.apply_model.specs.Script.OutcomeMap.{IsInRange, OutcomeMap, stated_step, outcome_of}
use Rattle.apply_model.specs.Script.Step.{after_of, answer_to}
use Rattle.apply_model.specs.Script.Waits.{could_begin, named_for, stated_waits}
use Rattle.apply_plan.specs.declared.script.script_error.ScriptError.TheVariants.{TooLarge, NotJson, BadShape, UnknownChange, Duplicate, TooManySteps, NeverBegins}
use Rattle.apply_plan.specs.Bytes.{max_bytes}
use Rattle.apply_plan.specs.Results.{all_or_first, each_with_earlier, or_refuse}
use Rattle.apply_plan.specs.Script.EntriesView.{IsWithin, AllResolved}
use Rattle.apply_plan.specs.Script.Entry.{Entry, EntryStep, WaitName, entry_of, is_verbatim_name}
use Rattle.apply_plan.specs.Script.OutcomeMap.{ResolvedEntry, by_number, change_of_entry, count_in, elements_of, entry_at, is_stuck, names_change, resolved_by, outcomes_of, script_of, script_of_entries, script_of_tree}
use Rattle.apply_plan.specs.Script.Refusals.{fault_of_entry, fault_of_steps, fault_of_waits}
use Rattle.apply_plan.specs.Script.WaitedStep.{change_waited, number_waited, step_of_change, resolved_step, step_waited, with_waits}
use Rattle.apply_plan.proofs.Results.{bind_ok, guard_ok, or_refuse_ok, unless_refused_ok}
use Rattle.apply_plan.proofs.Scripts.Entries.{at_number, change_is, is_in_range, length-by_number}
use Rattle.apply_plan.proofs.Scripts.Limits.{both_none, not_refused, said_is_within}
use Rattle.laws_run.specs.Scripts.{CouldBegin, WaitsWithin, waits_could_begin as begins_where}
use Rattle.laws_run.proofs.LeastSet.{least_set}
use Rattle.laws_run.proofs.ReadPlans.{all_answered, kinds_at}

-- ---- the step that is waited for

-- the changes have the step
abbrev pub IsStepIn : List ResourceChange → Wait → Type 0
IsStepIn changes name = name.step < length (kinds_at changes name.change)

-- an entry about the change that an item names
abbrev about_waited : WaitName → Entry
about_waited name = record { address = name.address; deposed = name.deposed; steps = [] }

abbrev step_at : (c k : ℕ) → Wait
step_at c k = record { change = c; step = k }

waited_is : (changes : List ResourceChange) (name : WaitName) (wait : Wait) → step_waited changes name ≡ Some wait → IsStepIn changes wait
waited_is changes name wait e = of_located (change_waited changes name) refl e
  where
    of_test : (located : ℕ × ResourceChange) (number : ℕ) (b : Bool) → slice_get changes located.0 ≡ Some located.1 → nat_lt number (length located.1.steps) ≡ b → cond b (Some (step_at located.0 number)) None ≡ Some wait → IsStepIn changes wait
    of_test located number false place less e = absurd cc
    of_test located number true place less e =
        subst (IsStepIn changes) (same_Some (step_at located.0 number) wait e)
        (subst (λ (o : Option ResourceChange). number < length (option_map_or (λ (change : ResourceChange). change.steps) o [])) (sym place) (ltb-true number (length located.1.steps) less))

    of_located : (o : Option (ℕ × ResourceChange)) → change_waited changes name ≡ o → option_and_then (step_of_change name) o ≡ Some wait → IsStepIn changes wait
    of_located None is e = absurd cc
    of_located (Some located) is e =
        let number = number_waited (length located.1.steps) name in
        of_test located number (nat_lt number (length located.1.steps)) (change_is changes (about_waited name) located.0 located.1 is).stands refl e

all_located : {X Y : Type 0} (P : Y → Type 0) (f : X → Option Y) (xs : List X) → ((x : X) (y : Y) → f x ≡ Some y → P y) → All P (filter_map f xs)
all_located P f [] holds = All-nil P
all_located P f (x ∷ xs) holds = of_first (f x) refl (all_located P f xs holds)
  where
    of_first : (o : Option _) → f x ≡ o → All P (filter_map f xs) → All P (cons_option o (filter_map f xs))
    of_first None is rest = rest
    of_first (Some y) is rest = All-cons P y (filter_map f xs) (holds x y is) rest

-- ---- an entry of the script

-- all steps that these name are the changes'
abbrev pub NamesIn : List ResourceChange → List ScriptStep → Type 0
NamesIn changes steps = AllByRecursion (λ step. All (IsStepIn changes) (after_of step)) steps

-- the steps are steps of a change, no more than it has; they name steps of the changes, and are
-- within the limits
pub record Suits (changes : List ResourceChange) (one : ResolvedEntry) : Type 0 where
  pub few : length one.steps ≤ length (kinds_at changes one.change)
  pub names : NamesIn changes one.steps
  pub within : All IsWithin one.steps

names_stated : (changes : List ResourceChange) (steps : List EntryStep) → NamesIn changes (map (resolved_step changes) steps)
names_stated changes [] = tt
names_stated changes (step ∷ steps) = (of_outcome step.outcome, names_stated changes steps)
  where
    waits : All (IsStepIn changes) (filter_map (step_waited changes) step.after)
    waits = all_located (IsStepIn changes) (step_waited changes) step.after (λ name wait is. waited_is changes name wait is)

    of_outcome : (o : Option Outcome) → All (IsStepIn changes) (after_of (with_waits o (filter_map (step_waited changes) step.after)))
    of_outcome None = waits
    of_outcome (Some outcome) = waits

few_stated : (n : ℕ) (changes : List ResourceChange) (earlier : ℕ) (change : ResourceChange) (steps : List EntryStep) → fault_of_entry n changes earlier change steps ≡ None → length steps ≤ length change.steps
unfolding fault_of_steps
few_stated n changes earlier change steps e =
    let outcomes = map (λ (step : EntryStep). step.outcome) steps in
    let none = both_none (fault_of_steps n (is_some change.deposed) change.steps outcomes) (fault_of_waits n changes earlier steps) e in
    let many = not_refused (nat_lt (length change.steps) (length outcomes)) (TooManySteps n) _ none.0 in
    let few = ltb-false (length change.steps) (length outcomes) many.0 in
    omega (arith, length-map steps (λ (step : EntryStep). step.outcome))

entry_suits : (changes : List ResourceChange) (before : List Data) (d : Data) (one : ResolvedEntry) → entry_at changes before d ≡ Ok one → Suits changes one
unfolding entry_at
entry_suits changes before d one e =
    let n = length before in
    let formed = bind_ok (or_refuse (BadShape (Some n)) (entry_of d)) _ one e in
    let entry = formed.0 in
    let about = bind_ok (or_refuse (UnknownChange n) (change_of_entry changes entry)) _ one formed.2 in
    let located = about.0 in
    let place = (change_is changes entry located.0 located.1 (or_refuse_ok (UnknownChange n) (change_of_entry changes entry) located about.1)).stands in
    let new = guard_ok (list_any (names_change located.1) before) (Duplicate n) _ one about.2 in
    let clear = unless_refused_ok (fault_of_entry n changes (sum_by count_in before) located.1 entry.steps) (resolved_by changes located.0 entry.steps) one new.1 in
    let few : length entry.steps ≤ length (kinds_at changes located.0) =
    subst (λ (o : Option ResourceChange). length entry.steps ≤ length (option_map_or (λ (change : ResourceChange). change.steps) o [])) (sym place)
    (few_stated n changes (sum_by count_in before) located.1 entry.steps clear.0) in
    subst (Suits changes) clear.1 (record {
      few = omega (arith, length-map entry.steps (resolved_step changes));
      names = names_stated changes entry.steps;
      within = said_is_within n changes (sum_by count_in before) located.1 entry.steps clear.0;
    })

-- ---- all entries

both_all : {X : Type 0} (P Q : X → Type 0) (xs : List X) → AllByRecursion P xs → AllByRecursion Q xs → AllByRecursion (λ x. P x × Q x) xs
both_all P Q [] first second = tt
both_all P Q (x ∷ xs) first second = ((first.0, second.0), both_all P Q xs first.1 second.1)

none_at : {X : Type 0} (p : X → Bool) (n : ℕ) (xs : List X) → position_from p n xs ≡ None → AllByRecursion (λ x. p x ≡ false) xs
none_at p n [] e = tt
none_at p n (x ∷ xs) e = of_test (p x) refl (none_at p (n + 1) xs) e
  where
    of_test : (b : Bool) → p x ≡ b → (position_from p (n + 1) xs ≡ None → AllByRecursion (λ y. p y ≡ false) xs) → cond b (Some n) (position_from p (n + 1) xs) ≡ None → AllByRecursion (λ y. p y ≡ false) (x ∷ xs)
    of_test true is rest e = absurd cc
    of_test false is rest e = (is, rest e)

none_mapped : {X Y : Type 0} (f : X → Y) (o : Option X) → option_map f o ≡ None → o ≡ None
none_mapped f None e = refl
none_mapped f (Some x) e = absurd cc

-- the entry of a change
entry_of_change : (P : ResolvedEntry → Type 0) (entries : List ResolvedEntry) (c : ℕ) (steps : List ScriptStep) → AllByRecursion P entries → outcomes_of entries c ≡ Some steps → (one : ResolvedEntry) × P one × (one.change ≡ c) × (one.steps ≡ steps)
entry_of_change P [] c steps all e = absurd cc
entry_of_change P (x ∷ entries) c steps all e = ⊎_elim
    (λ (same : ((x.change == c) ≡ true) × (x.change ≡ c)).
    (x, all.0, same.1, same_Some x.steps steps (sym (ap (λ (b : Bool). option_map (λ (y : ResolvedEntry). y.steps) (cond b (Some x) (find (λ (y : ResolvedEntry). y.change == c) entries))) same.0) ∙ e)))
    (λ (other : ((x.change == c) ≡ false) × (x.change ≢ c)).
    entry_of_change P entries c steps all.1 (sym (ap (λ (b : Bool). option_map (λ (y : ResolvedEntry). y.steps) (cond b (Some x) (find (λ (y : ResolvedEntry). y.change == c) entries))) other.0) ∙ e))
    (eqb_tells x.change c)

not_any : {X : Type 0} (p : X → Bool) (xs : List X) (k : ℕ) (d : X) → list_any p xs ≡ false → k < length xs → p (get_or xs k d) ≡ false
not_any p xs k d none below = ⊎_elim
    (λ (yes : p (get_or xs k d) ≡ true). let located : list_any p xs ≡ true = list_any_at p xs k d below yes in absurd cc)
    (λ (no : p (get_or xs k d) ≡ false). no)
    (cases_Bool (p (get_or xs k d)))

is_true : (b : Bool) → not b ≡ false → b ≡ true
is_true true e = refl
is_true false e = absurd cc

-- ---- one step

step_held : {X : Type 0} (P : X → Type 0) (xs : List X) (k : ℕ) (x : X) → AllByRecursion P xs → slice_get xs k ≡ Some x → P x
step_held P [] zero x all e = absurd cc
step_held P [] (suc k) x all e = absurd cc
step_held P (y ∷ xs) zero x all e = subst P (same_Some y x e) all.0
step_held P (y ∷ xs) (suc k) x all e = step_held P xs k x all.1 e

item_held : {X : Type 0} (P : X → Type 0) (xs : List X) (i : ℕ) (x : X) → All P xs → slice_get xs i ≡ Some x → P x
item_held P xs i x all e = subst P (get_or_from_slice_get xs i x x e) (all i x (slice_get_within xs i x e))

change_known : (changes : List ResourceChange) (c k : ℕ) → k < length (kinds_at changes c) → c < length changes
change_known [] zero k lt = absurd (omega arith)
change_known [] (suc c) k lt = absurd (omega arith)
change_known (x ∷ changes) zero k lt = omega arith
change_known (x ∷ changes) (suc c) k lt = let rest = change_known changes c k lt in omega arith

outcome_names : (P : Wait → Type 0) (o : Option ScriptStep) → IfSome o (λ step. All P (after_of step)) → All P (unwrap_or (option_and_then answer_to o) default_outcome).after
outcome_names P None names = All-nil P
outcome_names P (Some (Answered outcome)) names = names
outcome_names P (Some (Skipped after)) names = All-nil P

stated_names : (P : Wait → Type 0) (o : Option ScriptStep) → IfSome o (λ step. All P (after_of step)) → All P (option_map_or after_of o [])
stated_names P None names = All-nil P
stated_names P (Some step) names = names

-- ---- the script

module _ (changes : List ResourceChange) (entries : List ResolvedEntry) (suit : AllByRecursion (Suits changes) entries) where
  abbrev script : OutcomeMap
  script = by_number (length changes) entries

  given_at : (c k : ℕ) → c < length changes → stated_step script c k ≡ option_and_then (λ (steps : List ScriptStep). slice_get steps k) (outcomes_of entries c)
  given_at c k below = ap (λ (stated : Option (List ScriptStep)). option_and_then (λ (steps : List ScriptStep). slice_get steps k) stated) (at_number (length changes) entries c below)

  names_given : (c k : ℕ) → c < length changes → IfSome (stated_step script c k) (λ step. All (IsStepIn changes) (after_of step))
  names_given c k below = subst (λ (o : Option ScriptStep). IfSome o (λ step. All (IsStepIn changes) (after_of step))) (sym (given_at c k below)) (of_stated (outcomes_of entries c) refl)
    where
      of_step : (steps : List ScriptStep) (o : Option ScriptStep) → slice_get steps k ≡ o → NamesIn changes steps → IfSome o (λ step. All (IsStepIn changes) (after_of step))
      of_step steps None is names = tt
      of_step steps (Some step) is names = step_held (λ (s : ScriptStep). All (IsStepIn changes) (after_of s)) steps k step names is

      of_stated : (o : Option (List ScriptStep)) → outcomes_of entries c ≡ o → IfSome (option_and_then (λ (steps : List ScriptStep). slice_get steps k) o) (λ step. All (IsStepIn changes) (after_of step))
      of_stated None is = tt
      of_stated (Some steps) is =
          let one = entry_of_change (Suits changes) entries c steps suit is in
          of_step steps (slice_get steps k) refl (subst (NamesIn changes) one.3 one.1.names)

  pub names_steps : (c k : ℕ) → c < length changes → All (IsStepIn changes) (outcome_of script c k).after
  names_steps c k below = outcome_names (IsStepIn changes) (stated_step script c k) (names_given c k below)

  stated_within : AllResolved (All IsWithin) entries
  stated_within number = of_stated (outcomes_of entries number) refl
    where
      of_stated : (o : Option (List ScriptStep)) → outcomes_of entries number ≡ o → IfSome o (All IsWithin)
      of_stated None is = tt
      of_stated (Some steps) is =
          let one = entry_of_change (Suits changes) entries number steps suit is in
          subst (All IsWithin) one.3 one.1.within

  pub in_range : IsInRange script
  in_range = is_in_range (length changes) entries stated_within

  module _ (few : (c : ℕ) → length (kinds_at changes c) ≤ 2) where
    is_placed : (wait : Wait) → IsStepIn changes wait → (wait.change < length script) × (wait.step < 2)
    is_placed wait is =
        let most = few wait.change in
        let known = change_known changes wait.change wait.step is in
        let long = length-by_number (length changes) entries in
        (omega arith, omega arith)

    within : WaitsWithin script
    within c k i wait below low at = of_step k i low at
      where
        known : c < length changes
        known = let long = length-by_number (length changes) entries in omega arith

        named : (k i : ℕ) → slice_get (named_for script c k) i ≡ Some wait → (wait.change < length script) × (wait.step < 2)
        named k i at = is_placed wait (item_held (IsStepIn changes) (named_for script c k) i wait (stated_names (IsStepIn changes) (stated_step script c k) (names_given c k known)) at)

        of_step : (k i : ℕ) → k < 2 → slice_get (stated_waits script c k) i ≡ Some wait → (wait.change < length script) × (wait.step < 2)
        of_step zero i low at = named zero i at
        of_step (suc k) zero low at =
            let same = same_Some (step_at c k) wait at in
            subst (λ (w : Wait). (w.change < length script) × (w.step < 2)) same (below, omega arith)
        of_step (suc k) (suc i) low at = named (suc k) i at

    module _ (free : AllByRecursion (λ one. is_stuck script one ≡ false) entries) where
      -- a step that the script mentions could begin
      stated_begins : (c k : ℕ) (steps : List ScriptStep) → outcomes_of entries c ≡ Some steps → k < length steps → could_begin script c k ≡ true
      stated_begins c k steps is inside =
          let one = entry_of_change (λ (x : ResolvedEntry). is_stuck script x ≡ false) entries c steps free is in
          let x = one.0 in
          let same : length x.steps ≡ length steps = ap (λ (l : List ScriptStep). length l) one.3 in
          let long = length-range_with_len 0 (length x.steps) in
          let none = not_any (λ step. not (could_begin script x.change step)) (range_with_len 0 (length x.steps)) k 0 one.1 (omega arith) in
          let number : get_or (range_with_len 0 (length x.steps)) k 0 ≡ k = get_or-range_with_len 0 (length x.steps) k 0 (omega arith) ∙ omega arith in
          ap (λ (v : ℕ). could_begin script v k) (sym one.2) ∙ ap (could_begin script x.change) (sym number) ∙ is_true (could_begin script x.change (get_or (range_with_len 0 (length x.steps)) k 0)) none

      untold_none : (c k : ℕ) → stated_step script c k ≡ None → named_for script c k ≡ []
      untold_none c k is = ap (λ (o : Option ScriptStep). option_map_or after_of o []) is

      no_item : (xs : List Wait) (i : ℕ) (wait : Wait) → xs ≡ [] → slice_get xs i ≡ Some wait → ⊥
      no_item xs i wait none at = let past = slice_get_within xs i wait at in absurd (omega (arith, ap (λ (l : List Wait). length l) none))

      -- a step that the script does not mention could begin, as it waits only for the step before
      -- it
      untold_begins : (c k : ℕ) → stated_step script c k ≡ None → ((j : ℕ) → k ≡ suc j → CouldBegin script c j) → CouldBegin script c k
      untold_begins c zero none before = begins_where c zero (λ i wait at. absurd (no_item (named_for script c zero) i wait (untold_none c zero none) at))
      untold_begins c (suc k) none before = begins_where c (suc k) (λ i wait at. of_item i wait at)
        where
          of_item : (i : ℕ) (wait : Wait) → slice_get (stated_waits script c (suc k)) i ≡ Some wait → CouldBegin script wait.change wait.step
          of_item zero wait at = subst (λ (w : Wait). CouldBegin script w.change w.step) (same_Some (step_at c k) wait at) (before k refl)
          of_item (suc i) wait at = absurd (no_item (named_for script c (suc k)) i wait (untold_none c (suc k) none) at)

      -- whether the script mentions the step or not
      begins_if : (c k : ℕ) → c < length changes → k < 2 → ((j : ℕ) → k ≡ suc j → CouldBegin script c j) → CouldBegin script c k
      begins_if c k below low before = of_stated (outcomes_of entries c) refl
        where
          inside : c < length script
          inside = let long = length-by_number (length changes) entries in omega arith

          of_stated : (o : Option (List ScriptStep)) → outcomes_of entries c ≡ o → CouldBegin script c k
          of_stated None is = untold_begins c k (given_at c k below ∙ ap (option_and_then (λ (steps : List ScriptStep). slice_get steps k)) is) before
          of_stated (Some steps) is = ⊎_elim
              (λ (lt : k < length steps). (least_set script within c k inside low).0 (stated_begins c k steps is lt))
              (λ (ge : length steps ≤ k). untold_begins c k (given_at c k below ∙ ap (option_and_then (λ (steps : List ScriptStep). slice_get steps k)) is ∙ slice_get_past steps k ge) before)
              (cases_lt k (length steps))

      begins : (c k : ℕ) → c < length changes → k < 2 → CouldBegin script c k
      begins c zero below low = begins_if c zero below low (λ j is. absurd (omega arith))
      begins c (suc k) below low =
          let earlier = begins c k below (omega arith) in
          begins_if c (suc k) below low (λ j is. let same : k ≡ j = omega arith in subst (CouldBegin script c) same earlier)

      pub all_begin : (c k : ℕ) → c < length changes → k < 2 → could_begin script c k ≡ true
      all_begin c k below low =
          let long = length-by_number (length changes) entries in
          (least_set script within c k (omega arith) low).1 (begins c k below low)

-- ---- from bytes

-- a script that was read has entries that suit the changes, and no step that could never begin
pub record IsConsistent (changes : List ResourceChange) (script : OutcomeMap) : Type 0 where
  pub entries : List ResolvedEntry
  pub script_is : by_number (length changes) entries ≡ script
  pub suit : AllByRecursion (Suits changes) entries
  pub free : AllByRecursion (λ one. is_stuck (by_number (length changes) entries) one ≡ false) entries

entries_stated : (plan : SavedPlan) (elements : List Data) (script : OutcomeMap) → script_of_entries plan elements ≡ Ok script → IsConsistent plan.changes script
unfolding script_of_entries
entries_stated plan elements script e =
    let listed = bind_ok (all_or_first (each_with_earlier (entry_at plan.changes) elements)) _ script e in
    let made = by_number (length plan.changes) listed.0 in
    let clear = unless_refused_ok (option_map NeverBegins (position_from (is_stuck made) 0 listed.0)) made script listed.2 in
    record {
      entries = listed.0;
      script_is = clear.1;
      suit = all_answered (Suits plan.changes) (λ (p : ℕ × Data). entry_at plan.changes (take p.0 elements) p.1) (enumerate_from 0 elements) listed.0
          (λ p one is. entry_suits plan.changes (take p.0 elements) p.1 one is) listed.1;
      free = none_at (is_stuck made) 0 listed.0 (none_mapped NeverBegins (position_from (is_stuck made) 0 listed.0) clear.0);
    }

tree_stated : (plan : SavedPlan) (d : Data) (script : OutcomeMap) → script_of_tree plan d ≡ Ok script → IsConsistent plan.changes script
unfolding script_of_tree
tree_stated plan d script e =
    let located = bind_ok (or_refuse (BadShape None) (elements_of d)) _ script e in
    entries_stated plan (list_of located.0) script located.2

read_stated : (plan : SavedPlan) (bytes : List ℕ) (script : OutcomeMap) → script_of plan bytes ≡ Ok script → IsConsistent plan.changes script
unfolding script_of
read_stated plan bytes script e =
    let sized = guard_ok (nat_lt max_bytes (length bytes)) TooLarge _ script e in
    let parsed = bind_ok (or_refuse NotJson (mixed_tree_of is_verbatim_name bytes)) (script_of_tree plan) script sized.1 in
    tree_stated plan parsed.0 script parsed.2

pub read_names_steps : (plan : SavedPlan) (bytes : List ℕ) (script : OutcomeMap) → script_of plan bytes ≡ Ok script → (c k : ℕ) → IsStepIn plan.changes (step_at c k) → All (IsStepIn plan.changes) (outcome_of script c k).after
read_names_steps plan bytes script e c k has =
    let stated = read_stated plan bytes script e in
    subst (λ (s : OutcomeMap). All (IsStepIn plan.changes) (outcome_of s c k).after) stated.script_is
    (names_steps plan.changes stated.entries stated.suit c k (change_known plan.changes c k has))

pub read_begins : (plan : SavedPlan) (bytes : List ℕ) (script : OutcomeMap) → script_of plan bytes ≡ Ok script → ((c : ℕ) → length (kinds_at plan.changes c) ≤ 2) → (c k : ℕ) → IsStepIn plan.changes (step_at c k)
    → could_begin script c k ≡ true
read_begins plan bytes script e few c k has =
    let stated = read_stated plan bytes script e in
    let most = few c in
    subst (λ (s : OutcomeMap). could_begin s c k ≡ true) stated.script_is
    (all_begin plan.changes stated.entries stated.suit few stated.free c k (change_known plan.changes c k has) (omega arith))

pub read_in_range : (plan : SavedPlan) (bytes : List ℕ) (script : OutcomeMap) → script_of plan bytes ≡ Ok script → IsInRange script
read_in_range plan bytes script e =
    let stated = read_stated plan bytes script e in
    subst IsInRange stated.script_is (in_range plan.changes stated.entries stated.suit)
