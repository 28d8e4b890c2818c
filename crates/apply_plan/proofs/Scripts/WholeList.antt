-- Reading the entries one by one gives the script that is defined over the whole list.
use Rattle.std.proofs.Common.{◌≡◌, ℕ, ◌+◌, ◌<◌, ◌≤◌, Bool, true, false, cond, Option, Some, None, option_map, List, [], ◌∷◌, ◌++◌, length, map, set, Result, Ok, Err, refl, sym, ap, subst, ◌∙◌, arith}
use Rattle.std.specs.Prelude.{◌||◌, ◌==◌, is_some, sum_by}
use Rattle.std.specs.List.{All, count_by, list_any, position_from}
use Rattle.std.specs.Option.{option_map_or}
use Rattle.std.proofs.lemmas.List.{length-append, map-append}
use Rattle.std.proofs.lemmas.List.Elements.{All-append, All-cons, All-nil}
use Rattle.std.proofs.lemmas.List.Folds.{list_any-append}
use Rattle.std.proofs.lemmas.List.Sums.{count_by-le-length, sum_by_push}
use Rattle.std.proofs.lemmas.Option.{slice_get_within}
use Rattle.serde_json.specs.Data.{Data, Items}
use Rattle.apply_model.specs.declared.script.script_step.ScriptStep.{ScriptStep}
use Rattle.apply_plan.specs.declared.script.script_error.ScriptError.{ScriptError}
use Rattle.apply_plan.specs.declared.script.script_error.ScriptError.TheVariants.{BadShape, UnknownChange, Duplicate, NeverBegins}
use Rattle.apply_json.specs.Tree.{list_of}
use Rattle.apply_plan.specs.ListReading.{made_after}
use Rattle.apply_model.specs.Plan.ResourceChange.{ResourceChange}
use Rattle.apply_model.specs.Plan.SavedPlan.{SavedPlan}
use Rattle.apply_plan.specs.Results.{◌>>=◌, all_or_first, each_with_earlier, or_refuse, unless_refused}
use Rattle.apply_plan.specs.Script.EntriesView.{HasStepCounts, HasResolved, IsWithin, step_count_of}
use Rattle.apply_plan.specs.Script.Entry.{Entry, entry_of}
use Rattle.apply_plan.specs.Script.NextEntry.{count_waits, entry_after, resolved_next}
use Rattle.apply_model.specs.Script.OutcomeMap.{IsInRange, OutcomeMap, stated_steps}
use Rattle.apply_resolve.specs.Placed.{AreAllPlaced, ArePlaced}
use Rattle.apply_resolve.specs.Unreachable.{is_unreachable_at}
use Rattle.apply_plan.specs.Script.OutcomeMap.{ResolvedEntry, by_number, change_of_entry, count_in, entry_at, is_about, is_stuck, names_change, resolved_by, outcomes_of, script_of_entries}
use Rattle.apply_plan.specs.Script.Refusals.{count_of_waits, fault_of_entry}
use Rattle.apply_plan.proofs.Results.{bind_ok, bind_same, guard_ok, or_refuse_ok, unless_refused_ok}
use Rattle.apply_plan.proofs.WholeList.{AnswersAlike, read_one_by_one}
use Rattle.apply_plan.proofs.Scripts.Entries.{IsChangeOf, about_same, are_all_placed, at_number, by_number-append, change_is, counted_more, is_in_range, is_said-append, length-by_number, none_counted, says_more}
use Rattle.apply_plan.proofs.Scripts.Limits.{said_is_within}

-- ---- an accepted entry

-- an entry without a fault, after earlier entries
record IsAccepted (changes : List ResourceChange) (outcomes : OutcomeMap) (d : Data) (one : ResolvedEntry) : Type 0 where
  entry : Entry
  change : ResourceChange
  entry_is : entry_of d ≡ Some entry
  change_of : IsChangeOf changes entry one.change change
  new : is_some (stated_steps outcomes one.change) ≡ false
  within : All IsWithin one.steps
  counted : one.waits ≡ count_of_waits entry.steps

accepted : (changes : List ResourceChange) (outcomes : OutcomeMap) (earlier n : ℕ) (d : Data) (one : ResolvedEntry) → resolved_next changes outcomes earlier n d ≡ Ok one → IsAccepted changes outcomes d one
unfolding resolved_next
accepted changes outcomes earlier n d one e =
    let formed = bind_ok (or_refuse (BadShape (Some n)) (entry_of d)) _ one e in
    let entry_is = or_refuse_ok (BadShape (Some n)) (entry_of d) formed.0 formed.1 in
    let known = bind_ok (or_refuse (UnknownChange n) (change_of_entry changes formed.0)) _ one formed.2 in
    let located = or_refuse_ok (UnknownChange n) (change_of_entry changes formed.0) known.0 known.1 in
    let new = guard_ok (is_some (stated_steps outcomes known.0.0)) (Duplicate n) _ one known.2 in
    let fault = fault_of_entry n changes earlier known.0.1 formed.0.steps in
    let clear = unless_refused_ok fault (resolved_by changes known.0.0 formed.0.steps) one new.1 in
    subst (λ (o : ResolvedEntry). IsAccepted changes outcomes d o) clear.1
    (record {
      entry = formed.0;
      change = known.0.1;
      entry_is = entry_is;
      change_of = change_is changes formed.0 known.0.0 known.0.1 located;
      new = new.0;
      within = said_is_within n changes earlier known.0.1 formed.0.steps clear.0;
      counted = refl;
    })

-- ---- the whole list

-- the resolved entries are those of the elements, one by one
record AreEntriesOf (changes : List ResourceChange) (before : List Data) (made : List ResolvedEntry) : Type 0 where
  same_length : length made ≡ length before
  same_waits : count_waits made ≡ sum_by count_in before
  same_changes : (entry : Entry) (number : ℕ) (change : ResourceChange) → IsChangeOf changes entry number change → list_any (names_change change) before ≡ is_some (outcomes_of made number)

or_false : (b : Bool) → (b || false) ≡ b
or_false true = refl
or_false false = refl

AreEntriesOf-push : (changes : List ResourceChange) (before : List Data) (made : List ResolvedEntry) (d : Data) (one : ResolvedEntry) → AreEntriesOf changes before made → entry_after changes made d ≡ Ok one
    → AreEntriesOf changes (before ++ d ∷ []) (made ++ one ∷ [])
AreEntriesOf-push changes before made d one are e =
    let is = accepted changes (by_number (length changes) made) (count_waits made) (length made) d one e in
    let counted : count_in d ≡ one.waits = ap (λ (o : Option Entry). option_map_or (λ (entry : Entry). count_of_waits entry.steps) o 0) is.entry_is ∙ sym is.counted in
    record {
      same_length = omega (arith, length-append before (d ∷ []), length-append made (one ∷ []), are.same_length);
      same_waits = sum_by_push (λ (x : ResolvedEntry). x.waits) made one ∙ ap (λ (n : ℕ). n + one.waits) are.same_waits ∙ ap (λ (n : ℕ). sum_by count_in before + n) (sym counted) ∙ sym (sum_by_push count_in before d);
      same_changes = λ entry number change of_entry.
          let named : names_change change d ≡ (one.change == number) = ap (λ (o : Option Entry). option_map_or (is_about change) o false) is.entry_is ∙ about_same changes entry is.entry number one.change change is.change of_entry is.change_of in
          rw (list_any-append (names_change change) before (d ∷ []), is_said-append made one number, are.same_changes entry number change of_entry, named, or_false (one.change == number)) refl;
    }

bind_found : {B : Type 0} (o : Option (ℕ × ResourceChange)) (refusal : ScriptError) (f g : ℕ × ResourceChange → Result B ScriptError) → ((p : ℕ × ResourceChange) → o ≡ Some p → f p ≡ g p) → (or_refuse refusal o >>= f) ≡ (or_refuse refusal o >>= g)
bind_found None refusal f g same = refl
bind_found (Some p) refusal f g same = same p refl

-- both definitions agree whether an earlier entry has the change
same_answer : (changes : List ResourceChange) (before : List Data) (made : List ResolvedEntry) (d : Data) → AreEntriesOf changes before made → entry_after changes made d ≡ entry_at changes before d
unfolding resolved_next entry_at
same_answer changes before made d are =
    rw (are.same_length, are.same_waits)
    (bind_same (or_refuse (BadShape (Some (length before))) (entry_of d)) _ _ (λ entry.
    bind_found (change_of_entry changes entry) (UnknownChange (length before)) _ _ (λ p located.
    let of_entry = change_is changes entry p.0 p.1 located in
    let below = slice_get_within changes p.0 p.1 of_entry.stands in
    let named : is_some (stated_steps (by_number (length changes) made) p.0) ≡ list_any (names_change p.1) before = ap is_some (at_number (length changes) made p.0 below) ∙ sym (are.same_changes entry p.0 p.1 of_entry) in
    rw named refl)))

alike : (changes : List ResourceChange) → AnswersAlike (entry_after changes) (entry_at changes) (AreEntriesOf changes)
alike changes = record {
  none = record { same_length = refl; same_waits = refl; same_changes = λ entry number change of_entry. refl };
  same = same_answer changes;
  more = AreEntriesOf-push changes;
}

pub entries_one_by_one : (changes : List ResourceChange) (elements : Items) → made_after (entry_after changes) [] elements ≡ all_or_first (each_with_earlier (entry_at changes) (list_of elements))
entries_one_by_one changes elements = read_one_by_one (entry_after changes) (entry_at changes) (AreEntriesOf changes) (alike changes) elements

-- ---- the steps of a reader

pub nothing_stated : (changes : List ResourceChange) (outcomes : OutcomeMap) → outcomes ≡ by_number (length changes) [] → HasResolved changes outcomes 0 0 []
nothing_stated changes outcomes is =
    record { count = refl; waits_are = refl; outcomes_are = is; counted = ap (λ (s : OutcomeMap). count_by is_some s) is ∙ none_counted (length changes); in_range = λ number. tt; placed = λ number. tt }

pub few_entries : (changes : List ResourceChange) (outcomes : OutcomeMap) (waits n : ℕ) (made : List ResolvedEntry) → HasResolved changes outcomes waits n made → n ≤ length changes
few_entries changes outcomes waits n made has = omega (arith, count_by-le-length is_some outcomes, has.counted, ap length has.outcomes_are, length-by_number (length changes) made)

pub same_entry : (changes : List ResourceChange) (outcomes : OutcomeMap) (waits n : ℕ) (made : List ResolvedEntry) (d : Data) (answer : Result ResolvedEntry ScriptError) → HasResolved changes outcomes waits n made
    → resolved_next changes outcomes waits n d ≡ answer → entry_after changes made d ≡ answer
same_entry changes outcomes waits n made d answer has e = rw (has.count, has.waits_are, ← has.outcomes_are) e

pub stated_more : (changes : List ResourceChange) (outcomes : OutcomeMap) (waits n : ℕ) (made : List ResolvedEntry) (d : Data) (one : ResolvedEntry) → HasResolved changes outcomes waits n made
    → resolved_next changes outcomes waits n d ≡ Ok one → ArePlaced (length outcomes) one.steps → HasResolved changes (set outcomes one.change (Some one.steps)) (waits + one.waits) (n + 1) (made ++ one ∷ [])
stated_more changes outcomes waits n made d one has e placed =
    let is = accepted changes outcomes waits n d one e in
    let below = slice_get_within changes one.change is.change is.change_of.stands in
    let long : length outcomes ≡ length changes = ap length has.outcomes_are ∙ length-by_number (length changes) made in
    let within : one.change < length outcomes = omega (arith, below, long) in
    let new = none_there (stated_steps outcomes one.change) is.new in
    let unsaid : outcomes_of made one.change ≡ None = sym (at_number (length changes) made one.change below) ∙ ap (λ (s : OutcomeMap). stated_steps s one.change) (sym has.outcomes_are) ∙ new in
    record {
      count = omega (arith, length-append made (one ∷ []), has.count);
      waits_are = sum_by_push (λ (x : ResolvedEntry). x.waits) made one ∙ ap (λ (n : ℕ). n + one.waits) has.waits_are;
      outcomes_are = ap (λ (s : OutcomeMap). set s one.change (Some one.steps)) has.outcomes_are ∙ sym (by_number-append (length changes) made one below unsaid);
      counted = omega (arith, counted_more outcomes one.change one.steps within new, has.counted);
      in_range = says_more (All IsWithin) made one has.in_range is.within;
      placed = says_more (ArePlaced (length changes)) made one has.placed (subst (λ (n : ℕ). ArePlaced n one.steps) long placed);
    }
  where
    none_there : (o : Option (List ScriptStep)) → is_some o ≡ false → o ≡ None
    none_there None h = refl
    none_there (Some x) h = absurd cc

pub stated_in_range : (changes : List ResourceChange) (outcomes : OutcomeMap) (waits n : ℕ) (made : List ResolvedEntry) → HasResolved changes outcomes waits n made → IsInRange outcomes
stated_in_range changes outcomes waits n made has = subst (λ (s : OutcomeMap). IsInRange s) (sym has.outcomes_are) (is_in_range (length changes) made has.in_range)

pub stated_placed : (changes : List ResourceChange) (outcomes : OutcomeMap) (waits n : ℕ) (made : List ResolvedEntry) → HasResolved changes outcomes waits n made → AreAllPlaced outcomes
stated_placed changes outcomes waits n made has = subst AreAllPlaced (sym has.outcomes_are) (are_all_placed (length changes) made has.placed)

-- ---- the stored entries, and which of them can never start

pub no_step_counts : (n : ℕ) (step_counts : List (ℕ × ℕ)) → step_counts ≡ [] → HasStepCounts n step_counts []
no_step_counts n step_counts none = let P = λ (entry : ℕ × ℕ). (entry.0 < n) × (entry.1 ≤ 2) in record { counts_are = none; within = subst (All P) (sym none) (All-nil P) }

pub one_step_count : (n : ℕ) (step_counts : List (ℕ × ℕ)) (made : List ResolvedEntry) (one : ResolvedEntry) → HasStepCounts n step_counts made → one.change < n → length one.steps ≤ 2 → HasStepCounts n (step_counts ++ step_count_of one ∷ []) (made ++ one ∷ [])
one_step_count n step_counts made one has below few =
    let P = λ (entry : ℕ × ℕ). (entry.0 < n) × (entry.1 ≤ 2) in
    record {
      counts_are = rw (map-append step_count_of made (one ∷ []), has.counts_are) refl;
      within = All-append P step_counts (step_count_of one ∷ []) has.within (All-cons P (step_count_of one) [] (below, few) (All-nil P));
    }

pub same_stuck : (script : OutcomeMap) (made : List ResolvedEntry) (n : ℕ) → position_from (is_unreachable_at script) n (map step_count_of made) ≡ position_from (is_stuck script) n made
same_stuck script [] n = refl
same_stuck script (one ∷ made) n = ap (λ (o : Option ℕ). cond (is_stuck script one) (Some n) o) (same_stuck script made (n + 1))

-- ---- the script of the entries

pub refused_script : (plan : SavedPlan) (elements : Items) (e : ScriptError) → all_or_first (each_with_earlier (entry_at plan.changes) (list_of elements)) ≡ Err e → script_of_entries plan (list_of elements) ≡ Err e
unfolding script_of_entries
refused_script plan elements e fault = rw fault refl

-- the script of all entries, by which of them can never start
pub made_script : (plan : SavedPlan) (elements : Items) (outcomes : OutcomeMap) (waits n : ℕ) (made : List ResolvedEntry) (step_counts : List (ℕ × ℕ)) (stuck : Option ℕ) → HasResolved plan.changes outcomes waits n made
    → step_counts ≡ map step_count_of made → stuck ≡ position_from (is_unreachable_at outcomes) 0 step_counts
    → all_or_first (each_with_earlier (entry_at plan.changes) (list_of elements)) ≡ Ok made → script_of_entries plan (list_of elements) ≡ unless_refused (option_map NeverBegins stuck) outcomes
unfolding script_of_entries
made_script plan elements outcomes waits n made step_counts stuck has counts_are stuck_is e =
    let same : position_from (is_stuck outcomes) 0 made ≡ stuck = sym (same_stuck outcomes made 0) ∙ ap (position_from (is_unreachable_at outcomes) 0) (sym counts_are) ∙ sym stuck_is in
    rw e (rw (← has.outcomes_are) (ap (λ (o : Option ℕ). unless_refused (option_map NeverBegins o) outcomes) same))
