-- All entries with a step that can never start, next to the script that is read.
use Rattle.std.proofs.Common.{◌≡◌, ℕ, ◌+◌, Bool, true, false, cond, Option, Some, None, option_map, List, [], ◌∷◌, length, map, Result, Ok, Err, refl, sym, ap, ◌∙◌, ⊎_elim}
use Rattle.std.specs.Prelude.{nat_lt, slice_get}
use Rattle.std.specs.List.{position_from}
use Rattle.std.specs.Result.{result_err}
use Rattle.std.proofs.lemmas.Bool.{cases_Bool}
use Rattle.serde_json.specs.Data.{Data, Items}
use Rattle.apply_json.specs.Verbatim.{mixed_tree_of}
use Rattle.apply_json.specs.Tree.{list_of}
use Rattle.apply_model.specs.Plan.SavedPlan.{SavedPlan}
use Rattle.apply_model.specs.Script.OutcomeMap.{OutcomeMap}
use Rattle.apply_resolve.specs.Unreachable.{is_unreachable_at, numbers_from}
use Rattle.apply_plan.specs.declared.script.script_error.ScriptError.{ScriptError}
use Rattle.apply_plan.specs.declared.script.script_error.ScriptError.TheVariants.{TooLarge, NotJson, BadShape, NeverBegins}
use Rattle.apply_plan.specs.Bytes.{max_bytes}
use Rattle.apply_plan.specs.Results.{◌>>=◌, all_or_first, each_with_earlier, or_refuse, unless_refused}
use Rattle.apply_plan.specs.Script.EntriesView.{HasResolved, step_count_of}
use Rattle.apply_plan.specs.Script.Entry.{is_verbatim_name}
use Rattle.apply_plan.specs.Script.NeverBeginning.{elements_in, elements_of_tree, never_beginning_in, never_beginning_of, refusal_of}
use Rattle.apply_plan.specs.Script.OutcomeMap.{ResolvedEntry, by_number, elements_of, entry_at, is_stuck, script_of, script_of_entries, script_of_tree, unless_stuck}

-- ---- the numbers

same_numbers : (script : OutcomeMap) (made : List ResolvedEntry) (n : ℕ) → numbers_from n (is_unreachable_at script) (map step_count_of made) ≡ numbers_from n (is_stuck script) made
same_numbers script [] n = refl
same_numbers script (one ∷ made) n = ⊎_elim
    (λ (yes : is_stuck script one ≡ true). rw yes (ap (λ (ns : List ℕ). n ∷ ns) (same_numbers script made (n + 1))))
    (λ (no : is_stuck script one ≡ false). rw no (same_numbers script made (n + 1)))
    (cases_Bool (is_stuck script one))

-- the first of these numbers
first_number : {X : Type 0} (test : X → Bool) (xs : List X) (n : ℕ) → slice_get (numbers_from n test xs) 0 ≡ position_from test n xs
first_number test [] n = refl
first_number test (x ∷ xs) n = ⊎_elim
    (λ (yes : test x ≡ true). rw yes refl)
    (λ (no : test x ≡ false). rw no (first_number test xs (n + 1)))
    (cases_Bool (test x))

-- ---- the entries

pub refused_numbers : (plan : SavedPlan) (elements : Items) (e : ScriptError) → all_or_first (each_with_earlier (entry_at plan.changes) (list_of elements)) ≡ Err e → never_beginning_in plan (list_of elements) ≡ Err e
unfolding never_beginning_in
refused_numbers plan elements e fault = rw fault refl

pub made_numbers : (plan : SavedPlan) (elements : Items) (outcomes : OutcomeMap) (waits n : ℕ) (made : List ResolvedEntry) (step_counts : List (ℕ × ℕ)) (stuck : List ℕ) → HasResolved plan.changes outcomes waits n made
    → step_counts ≡ map step_count_of made → stuck ≡ numbers_from 0 (is_unreachable_at outcomes) step_counts
    → all_or_first (each_with_earlier (entry_at plan.changes) (list_of elements)) ≡ Ok made → never_beginning_in plan (list_of elements) ≡ Ok stuck
unfolding never_beginning_in
made_numbers plan elements outcomes waits n made step_counts stuck has counts_are stuck_is e =
    let same : numbers_from 0 (is_stuck outcomes) made ≡ stuck = sym (same_numbers outcomes made 0) ∙ ap (numbers_from 0 (is_unreachable_at outcomes)) (sym counts_are) ∙ sym stuck_is in
    rw e (rw (← has.outcomes_are) (ap (λ (ns : List ℕ). Ok ns) same))

-- a script is refused for the first such entry
first_entry : (plan : SavedPlan) (ds : List Data) → result_err (script_of_entries plan ds) ≡ refusal_of (never_beginning_in plan ds)
unfolding script_of_entries never_beginning_in
first_entry plan ds = of (all_or_first (each_with_earlier (entry_at plan.changes) ds))
  where
    refused : (o : Option ScriptError) (script : OutcomeMap) → result_err (unless_refused o script) ≡ o
    refused None script = refl
    refused (Some refusal) script = refl

    of : (r : Result (List ResolvedEntry) ScriptError) → result_err (r >>= λ entries. unless_stuck entries (by_number (length plan.changes) entries)) ≡ refusal_of (r >>= λ entries. Ok (numbers_from 0 (is_stuck (by_number (length plan.changes) entries)) entries))
    of (Err e) = refl
    of (Ok entries) =
        let script = by_number (length plan.changes) entries in
        refused (option_map NeverBegins (position_from (is_stuck script) 0 entries)) script ∙ ap (option_map NeverBegins) (sym (first_number (is_stuck script) entries 0))

-- ---- the bytes

-- a script is read from the same elements
script_of_read : (plan : SavedPlan) (bytes : List ℕ) → script_of plan bytes ≡ (elements_in bytes >>= script_of_entries plan)
unfolding script_of script_of_tree
script_of_read plan bytes = sized (nat_lt max_bytes (length bytes))
  where
    listed : (o : Option Items) → (or_refuse (BadShape None) o >>= λ elements. script_of_entries plan (list_of elements)) ≡ ((or_refuse (BadShape None) o >>= λ elements. Ok (list_of elements)) >>= script_of_entries plan)
    listed None = refl
    listed (Some elements) = refl

    read : (o : Option Data) → (or_refuse NotJson o >>= script_of_tree plan) ≡ ((or_refuse NotJson o >>= elements_of_tree) >>= script_of_entries plan)
    read None = refl
    read (Some d) = listed (elements_of d)

    sized : (b : Bool) → cond b (Err TooLarge) (or_refuse NotJson (mixed_tree_of is_verbatim_name bytes) >>= script_of_tree plan) ≡ (cond b (Err TooLarge) (or_refuse NotJson (mixed_tree_of is_verbatim_name bytes) >>= elements_of_tree) >>= script_of_entries plan)
    sized true = refl
    sized false = read (mixed_tree_of is_verbatim_name bytes)

numbers_of_read : (plan : SavedPlan) (bytes : List ℕ) → never_beginning_of plan bytes ≡ (elements_in bytes >>= never_beginning_in plan)
unfolding never_beginning_of
numbers_of_read plan bytes = refl

module _ (plan : SavedPlan) (bytes : List ℕ) where
  pub script_read : (ds : List Data) → elements_in bytes ≡ Ok ds → script_of plan bytes ≡ script_of_entries plan ds
  script_read ds is = script_of_read plan bytes ∙ ap (λ (r : Result (List Data) ScriptError). r >>= script_of_entries plan) is

  pub script_refused : (refusal : ScriptError) → elements_in bytes ≡ Err refusal → script_of plan bytes ≡ Err refusal
  script_refused refusal is = script_of_read plan bytes ∙ ap (λ (r : Result (List Data) ScriptError). r >>= script_of_entries plan) is

  pub numbers_read : (ds : List Data) → elements_in bytes ≡ Ok ds → never_beginning_of plan bytes ≡ never_beginning_in plan ds
  numbers_read ds is = numbers_of_read plan bytes ∙ ap (λ (r : Result (List Data) ScriptError). r >>= never_beginning_in plan) is

  pub numbers_refused : (refusal : ScriptError) → elements_in bytes ≡ Err refusal → never_beginning_of plan bytes ≡ Err refusal
  numbers_refused refusal is = numbers_of_read plan bytes ∙ ap (λ (r : Result (List Data) ScriptError). r >>= never_beginning_in plan) is

pub first_is_refused : (plan : SavedPlan) (bytes : List ℕ) → result_err (script_of plan bytes) ≡ refusal_of (never_beginning_of plan bytes)
first_is_refused plan bytes = ap (λ (r : Result OutcomeMap ScriptError). result_err r) (script_of_read plan bytes) ∙ of (elements_in bytes) ∙ ap refusal_of (sym (numbers_of_read plan bytes))
  where
    of : (r : Result (List Data) ScriptError) → result_err (r >>= script_of_entries plan) ≡ refusal_of (r >>= never_beginning_in plan)
    of (Ok ds) = first_entry plan ds
    of (Err e) = refl
