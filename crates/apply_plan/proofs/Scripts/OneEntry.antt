-- One entry, resolved in the steps of a reader.
use Rattle.std.proofs.Common.{◌≡◌, ℕ, ◌+◌, ◌-◌, ◌<◌, ◌≤◌, Bool, true, false, cond, List, [], ◌∷◌, length, map, get_or, Option, Some, None, option_map, Result, Ok, Err, refl, sym, ap, ◌∙◌, arith, ⊎_elim}
use Rattle.std.specs.Prelude.{is_some, nat_lt, option_and_then}
use Rattle.std.proofs.lemmas.Bool.{cases_Bool, le-ltb, lt-ltb, ltb-false, ltb-true}
use Rattle.std.proofs.lemmas.List.{length-map}
use Rattle.std.proofs.lemmas.List.Sums.{sum_by-cons}
use Rattle.std.proofs.lemmas.Option.{slice_get_read}
use Rattle.serde_json.specs.Data.{Data}
use Rattle.apply_model.specs.declared.script.outcome.Outcome.{Outcome}
use Rattle.apply_model.specs.declared.script.script_step.ScriptStep.{ScriptStep}
use Rattle.apply_plan.specs.declared.script.script_error.ScriptError.{ScriptError}
use Rattle.apply_plan.specs.declared.script.script_error.ScriptError.TheVariants.{BadShape, UnknownChange, Duplicate, TooManySteps, TooManyWaits}
use Rattle.apply_plan.specs.declared.script.raw_entry.RawEntry.{RawEntry}
use Rattle.apply_plan.specs.declared.script.raw_step.RawStep.{RawStep}
use Rattle.apply_model.specs.declared.plan.step_kind.StepKind.{StepKind}
use Rattle.apply_model.specs.Script.Limits.{max_waits}
use Rattle.apply_model.specs.Plan.ResourceChange.{ResourceChange}
use Rattle.apply_plan.specs.Results.{unless_refused}
use Rattle.apply_plan.specs.Script.Entry.{Entry, EntryStep, entry_of}
use Rattle.apply_plan.specs.Script.NextEntry.{resolved_next, steps_or_fault}
use Rattle.apply_model.specs.Script.OutcomeMap.{OutcomeMap, stated_steps}
use Rattle.apply_plan.specs.Script.OutcomeMap.{ResolvedEntry, change_of_entry, resolved_by}
use Rattle.apply_plan.specs.Script.Refusals.{count_of_waits, fault_of_entry, fault_of_names, fault_of_steps, fault_of_waits}
use Rattle.apply_plan.specs.Script.RawView.{entry_step_view, entry_view, step_view, raw_waits, wait_view, waits_within}
use Rattle.apply_plan.specs.Script.WaitedStep.{resolved_step}
use Rattle.apply_plan.proofs.Results.{unless_refused_ok}
use Rattle.apply_plan.proofs.Scripts.Entries.{IsChangeOf}
use Rattle.apply_plan.proofs.Scripts.Limits.{not_refused}

pub entry_found : (d : Data) (located : Option RawEntry) (entry : RawEntry) → option_map entry_view located ≡ entry_of d → located ≡ Some entry → Some (entry_view entry) ≡ entry_of d
entry_found d located entry is some = sym (ap (λ (o : Option RawEntry). option_map entry_view o) some) ∙ is

pub malformed : (changes : List ResourceChange) (outcomes : OutcomeMap) (earlier n : ℕ) (d : Data) (located : Option RawEntry) → option_map entry_view located ≡ entry_of d → located ≡ None
    → resolved_next changes outcomes earlier n d ≡ Err (BadShape (Some n))
unfolding resolved_next
malformed changes outcomes earlier n d located is none = rw (← is, none) refl

pub unknown : (changes : List ResourceChange) (outcomes : OutcomeMap) (earlier n : ℕ) (d : Data) (located : Option RawEntry) (entry : RawEntry) → option_map entry_view located ≡ entry_of d → located ≡ Some entry
    → change_of_entry changes (entry_view entry) ≡ None → resolved_next changes outcomes earlier n d ≡ Err (UnknownChange n)
unfolding resolved_next
unknown changes outcomes earlier n d located entry is some none = rw (← is, some, none) refl

-- the tests that are left for an entry with a known change
abbrev asked : List ResourceChange → OutcomeMap → (earlier n number : ℕ) → ResourceChange → Entry → Result ResolvedEntry ScriptError
asked changes outcomes earlier n number change entry =
    cond (is_some (stated_steps outcomes number)) (Err (Duplicate n)) (unless_refused (fault_of_entry n changes earlier change entry.steps) (resolved_by changes number entry.steps))

-- a reader has located the entry and its change
pub record IsLocated (changes : List ResourceChange) (outcomes : OutcomeMap) (d : Data) (entry : RawEntry) (number : ℕ) (change : ResourceChange) (there : Option (List ScriptStep)) : Type 0 where
  pub entry_is : Some (entry_view entry) ≡ entry_of d
  pub change_is : IsChangeOf changes (entry_view entry) number change
  pub below : number < length outcomes
  pub there_is : there ≡ get_or outcomes number there

known : (changes : List ResourceChange) (outcomes : OutcomeMap) (earlier n : ℕ) (d : Data) (entry : RawEntry) (number : ℕ) (change : ResourceChange) (there : Option (List ScriptStep)) → IsLocated changes outcomes d entry number change there
    → resolved_next changes outcomes earlier n d ≡ asked changes outcomes earlier n number change (entry_view entry)
unfolding resolved_next
known changes outcomes earlier n d entry number change there is = rw (← is.entry_is, is.change_is.located) refl

said_there : (outcomes : OutcomeMap) (number : ℕ) (there : Option (List ScriptStep)) → number < length outcomes → there ≡ get_or outcomes number there → stated_steps outcomes number ≡ there
said_there outcomes number there below is = ap (λ (o : Option (Option (List ScriptStep))). option_and_then (λ outcomes. outcomes) o) (slice_get_read outcomes (length outcomes) number there refl below is)

pub repeats : (changes : List ResourceChange) (outcomes : OutcomeMap) (earlier n : ℕ) (d : Data) (entry : RawEntry) (number : ℕ) (change : ResourceChange) (there : Option (List ScriptStep)) → IsLocated changes outcomes d entry number change there
    → is_some there ≡ true → resolved_next changes outcomes earlier n d ≡ Err (Duplicate n)
repeats changes outcomes earlier n d entry number change there is some =
    known changes outcomes earlier n d entry number change there is ∙ rw (said_there outcomes number there is.below is.there_is, some) refl

-- the result for a change without outcomes
pub answered : (changes : List ResourceChange) (outcomes : OutcomeMap) (earlier n : ℕ) (d : Data) (entry : RawEntry) (number : ℕ) (change : ResourceChange) (there : Option (List ScriptStep)) (fault : Option ScriptError) → IsLocated changes outcomes d entry number change there
    → is_some there ≡ false → fault_of_entry n changes earlier change (entry_view entry).steps ≡ fault → resolved_next changes outcomes earlier n d ≡ unless_refused fault (resolved_by changes number (entry_view entry).steps)
answered changes outcomes earlier n d entry number change there fault is none asked_is =
    known changes outcomes earlier n d entry number change there is ∙ rw (said_there outcomes number there is.below is.there_is, none, asked_is) refl

-- ---- the faults of an entry, in the order of a reader

-- the steps without what they wait for
outcomes_seen : (steps : List RawStep) → map (λ (step : EntryStep). step.outcome) (map entry_step_view steps) ≡ map step_view steps
outcomes_seen [] = refl
outcomes_seen (step ∷ steps) = ap (λ (rest : List (Option Outcome)). step_view step ∷ rest) (outcomes_seen steps)

pub counted_seen : (steps : List RawStep) → count_of_waits (map entry_step_view steps) ≡ raw_waits steps
counted_seen [] = refl
counted_seen (step ∷ steps) =
    sum_by-cons (λ (s : EntryStep). length s.after) (entry_step_view step) (map entry_step_view steps)
    ∙ ap (λ (n : ℕ). n + count_of_waits (map entry_step_view steps)) (length-map step.after.items wait_view)
    ∙ ap (λ (n : ℕ). length step.after.items + n) (counted_seen steps)
    ∙ sym (sum_by-cons (λ (s : RawStep). length s.after.items) step steps)

-- a fault of the steps comes first
pub fault_of_outcomes : (n : ℕ) (changes : List ResourceChange) (earlier : ℕ) (change : ResourceChange) (steps : List RawStep) (fault : ScriptError) → Some fault ≡ fault_of_steps n (is_some change.deposed) change.steps (map step_view steps)
    → fault_of_entry n changes earlier change (map entry_step_view steps) ≡ Some fault
fault_of_outcomes n changes earlier change steps fault is = rw (outcomes_seen steps, ← is) refl

-- the next fault: too many items
pub fault_of_count : (n : ℕ) (changes : List ResourceChange) (earlier : ℕ) (change : ResourceChange) (steps : List RawStep) → None ≡ fault_of_steps n (is_some change.deposed) change.steps (map step_view steps) → earlier ≤ max_waits
    → None ≡ waits_within (max_waits - earlier) steps → fault_of_entry n changes earlier change (map entry_step_view steps) ≡ Some (TooManyWaits n)
unfolding fault_of_waits
fault_of_count n changes earlier change steps none few beyond = rw (outcomes_seen steps, ← none, counted_seen steps) (⊎_elim
    (λ (over : nat_lt (max_waits - earlier) (raw_waits steps) ≡ true).
    let more : nat_lt max_waits (earlier + raw_waits steps) ≡ true = lt-ltb _ _ (let apart = ltb-true (max_waits - earlier) (raw_waits steps) over in omega arith) in
    rw more refl)
    (λ (within : nat_lt (max_waits - earlier) (raw_waits steps) ≡ false).
    let some : None ≡ cond false None (Some (raw_waits steps)) = rw within at beyond in absurd cc)
    (cases_Bool (nat_lt (max_waits - earlier) (raw_waits steps))))

-- the number of items, if they are not too many
pub count_within : (limit : ℕ) (steps : List RawStep) (count : ℕ) → Some count ≡ waits_within limit steps → (count ≡ raw_waits steps) × (raw_waits steps ≤ limit)
count_within limit steps count is = ⊎_elim
    (λ (over : nat_lt limit (raw_waits steps) ≡ true). let none : Some count ≡ cond true None (Some (raw_waits steps)) = rw over at is in absurd cc)
    (λ (within : nat_lt limit (raw_waits steps) ≡ false). let some : Some count ≡ cond false None (Some (raw_waits steps)) = rw within at is in (cc, ltb-false limit (raw_waits steps) within))
    (cases_Bool (nat_lt limit (raw_waits steps)))

-- the next fault: that of an item
pub fault_of_items : (n : ℕ) (changes : List ResourceChange) (earlier : ℕ) (change : ResourceChange) (steps : List RawStep) → None ≡ fault_of_steps n (is_some change.deposed) change.steps (map step_view steps) → earlier + raw_waits steps ≤ max_waits
    → fault_of_entry n changes earlier change (map entry_step_view steps) ≡ fault_of_names n changes (map entry_step_view steps)
unfolding fault_of_waits
fault_of_items n changes earlier change steps none few =
    let enough : nat_lt max_waits (earlier + raw_waits steps) ≡ false = le-ltb _ _ few in
    rw (outcomes_seen steps, ← none, counted_seen steps, enough) refl

-- the same error or none, whatever the value is
pub also_refused : {A B : Type 0} (o : Option ScriptError) (x : A) (y : B) (e : ScriptError) → unless_refused o x ≡ Err e → unless_refused o y ≡ Err e
also_refused None x y e is = absurd cc
also_refused (Some refusal) x y e is = cc

-- the steps of an entry, by the faults of its items
pub accepted : (n : ℕ) (changes : List ResourceChange) (number : ℕ) (steps : List RawStep) (outcomes : List ScriptStep) (waits : ℕ) (answer : Result ResolvedEntry ScriptError)
    → answer ≡ unless_refused (fault_of_names n changes (map entry_step_view steps)) (resolved_by changes number (map entry_step_view steps)) → steps_or_fault n changes (map entry_step_view steps) ≡ Ok outcomes → waits ≡ raw_waits steps
    → answer ≡ Ok (record { change = number; steps = outcomes; waits = waits })
accepted n changes number steps outcomes waits answer is made count =
    let clear = unless_refused_ok (fault_of_names n changes (map entry_step_view steps)) (map (resolved_step changes) (map entry_step_view steps)) outcomes made in
    let counted : count_of_waits (map entry_step_view steps) ≡ waits = counted_seen steps ∙ sym count in
    is ∙ rw (clear.0, clear.1, counted) refl

-- the entry has no more steps than the change
pub few_steps : (n : ℕ) (changes : List ResourceChange) (deposed : Bool) (kinds : List StepKind) (steps : List RawStep) (outcomes : List ScriptStep) → None ≡ fault_of_steps n deposed kinds (map step_view steps) → steps_or_fault n changes (map entry_step_view steps) ≡ Ok outcomes
    → length outcomes ≤ length kinds
unfolding fault_of_steps
few_steps n changes deposed kinds steps outcomes none made =
    let clear = unless_refused_ok (fault_of_names n changes (map entry_step_view steps)) (map (resolved_step changes) (map entry_step_view steps)) outcomes made in
    let few = not_refused (nat_lt (length kinds) (length (map step_view steps))) (TooManySteps n) _ (sym none) in
    omega (arith, ap (λ (os : List ScriptStep). length os) clear.1, length-map (map entry_step_view steps) (resolved_step changes), length-map steps entry_step_view, length-map steps step_view, ltb-false (length kinds) (length (map step_view steps)) few.0)
