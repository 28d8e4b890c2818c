-- The tests of an entry in order: a run refuses for the first test that holds. A statement about
-- each test's refusal holds for that one.
use Rattle.std.proofs.Common.{◌≡◌, ℕ, ◌+◌, List, length, map, Bool, true, false, cond, is_some, Option, Some, None, Result, Err, refl, subst, ap}
use Rattle.std.specs.Prelude.{nat_lt}
use Rattle.std.specs.List.{list_any, sum_by}
use Rattle.std.specs.Option.{option_or}
use Rattle.serde_json.specs.Data.{Data}
use Rattle.apply_model.specs.declared.plan.step_kind.StepKind.{StepKind}
use Rattle.apply_model.specs.Plan.ResourceChange.{ResourceChange}
use Rattle.apply_model.specs.Script.Limits.{max_waits}
use Rattle.apply_model.specs.Script.Outcome.{has_too_many_provisioners, has_too_much_output, is_too_long}
use Rattle.apply_plan.specs.declared.script.script_error.ScriptError.{ScriptError}
use Rattle.apply_plan.specs.declared.script.script_error.ScriptError.TheVariants.{BadShape, Duplicate, NoSuchStep, NotACreate, SecondsRange, TooManyProvisioners, TooManySteps}
use Rattle.apply_plan.specs.declared.script.script_error.ScriptError.TheVariants.{TooManyWaits, TooMuchOutput, UnknownChange, UnknownWait, WarnsNotARead}
use Rattle.apply_plan.specs.Results as results
use Rattle.apply_plan.specs.Results.{or_refuse, unless_refused}
use Rattle.apply_plan.specs.Script.Entry.{Entry, EntryStep, entry_of}
use Rattle.apply_plan.specs.Script.OutcomeMap.{ResolvedEntry, change_of_entry, count_in, entry_at, names_change, resolved_by}
use Rattle.apply_plan.specs.Script.Refusals as run
use Rattle.apply_plan.specs.Script.Refusals.{count_of_waits, fault_of_entry, fault_of_steps, fault_of_waits, is_any_wait, misplaces_provisioners, passes, warns_not_a_read}
use Rattle.laws_validate.proofs.Entries.{any_of, misplaced, warned}
use Rattle.laws_validate.proofs.AcceptedSteps.{outcomes}

some_is : {A : Type 0} (x y : A) → Some x ≡ Some y → x ≡ y
some_is x y e = cc

err_is : {A E : Type 0} (x y : E) → (let r : Result A E = Err x in r) ≡ Err y → x ≡ y
err_is x y e = cc

by_fault : (G : ScriptError → Type 0) (refusal : ScriptError) (b : Bool) (x : ScriptError) (o : Option ScriptError) → (b ≡ true → G x)
    → (o ≡ Some refusal → G refusal)
    → cond b (Some x) o ≡ Some refusal → G refusal
by_fault G refusal true x o reported later e = subst G (some_is x refusal e) (reported refl)
by_fault G refusal false x o reported later e = later e

no_more : (G : ScriptError → Type 0) (refusal : ScriptError) → None ≡ Some refusal → G refusal
no_more G refusal e = absurd cc

pub record OfSteps (G : ScriptError → Type 0) (n : ℕ) (deposed : Bool) (kinds : List StepKind) (steps : List EntryStep) : Type 0 where
  pub many : nat_lt (length kinds) (length (outcomes steps)) ≡ true → G (TooManySteps n)
  pub long : any_of is_too_long steps ≡ true → G (SecondsRange n)
  pub wide : any_of has_too_many_provisioners steps ≡ true → G (TooManyProvisioners n)
  pub loud : any_of has_too_much_output steps ≡ true → G (TooMuchOutput n)
  pub placed : misplaced deposed kinds steps ≡ true → G (NotACreate n)
  pub warns : warned kinds steps ≡ true → G (WarnsNotARead n)

by_steps : (G : ScriptError → Type 0) (n : ℕ) (deposed : Bool) (kinds : List StepKind) (steps : List EntryStep) (refusal : ScriptError)
    → OfSteps G n deposed kinds steps
    → fault_of_steps n deposed kinds (outcomes steps) ≡ Some refusal → G refusal
unfolding fault_of_steps
by_steps G n deposed kinds steps refusal reported e =
    by_fault G refusal _ (TooManySteps n) _ reported.many
    (by_fault G refusal _ (SecondsRange n) _ reported.long
    (by_fault G refusal _ (TooManyProvisioners n) _ reported.wide
    (by_fault G refusal _ (TooMuchOutput n) _ reported.loud
    (by_fault G refusal _ (NotACreate n) _ reported.placed
    (by_fault G refusal _ (WarnsNotARead n) None reported.warns (no_more G refusal)))))) e

pub record OfWaits (G : ScriptError → Type 0) (n : ℕ) (changes : List ResourceChange) (earlier : ℕ) (steps : List EntryStep) : Type 0 where
  pub many : nat_lt max_waits (earlier + count_of_waits steps) ≡ true → G (TooManyWaits n)
  pub unknown : is_any_wait (run.is_unknown changes) steps ≡ true → G (UnknownWait n)
  pub lacking : is_any_wait (run.lacks_step changes) steps ≡ true → G (NoSuchStep n)

by_waits : (G : ScriptError → Type 0) (n : ℕ) (changes : List ResourceChange) (earlier : ℕ) (steps : List EntryStep) (refusal : ScriptError)
    → OfWaits G n changes earlier steps
    → fault_of_waits n changes earlier steps ≡ Some refusal → G refusal
unfolding fault_of_waits
by_waits G n changes earlier steps refusal reported e =
    by_fault G refusal _ (TooManyWaits n) _ reported.many
    (by_fault G refusal _ (UnknownWait n) _ reported.unknown
    (by_fault G refusal _ (NoSuchStep n) None reported.lacking (no_more G refusal))) e

by_either : (G : ScriptError → Type 0) (a b : Option ScriptError) (refusal : ScriptError) → (a ≡ Some refusal → G refusal)
    → (b ≡ Some refusal → G refusal) → option_or a b ≡ Some refusal → G refusal
by_either G None b refusal first second e = second e
by_either G (Some x) b refusal first second e = first e

by_said : (G : ScriptError → Type 0) (o : Option ScriptError) (decoded : ResolvedEntry) (refusal : ScriptError) → (o ≡ Some refusal → G refusal)
    → unless_refused o decoded ≡ Err refusal → G refusal
by_said G None decoded refusal reported e = absurd cc
by_said G (Some x) decoded refusal reported e = reported (ap (λ (y : ScriptError). Some y) (err_is x refusal e))

abbrev pub refused_with : (dup : Bool) (n : ℕ) (changes : List ResourceChange) (earlier : ℕ) (entry : Entry) → ℕ × ResourceChange → Result ResolvedEntry ScriptError
refused_with dup n changes earlier entry it = cond dup (Err (Duplicate n))
    (unless_refused (fault_of_entry n changes earlier it.1 entry.steps) (resolved_by changes it.0 entry.steps))

pub by_change : (G : ScriptError → Type 0) (dup : Bool) (n : ℕ) (changes : List ResourceChange) (earlier : ℕ) (entry : Entry) (it : ℕ × ResourceChange)
    (refusal : ScriptError)
    → (dup ≡ true → G (Duplicate n)) → OfSteps G n (is_some it.1.deposed) it.1.steps entry.steps → OfWaits G n changes earlier entry.steps
    → refused_with dup n changes earlier entry it ≡ Err refusal → G refusal
by_change G true n changes earlier entry it refusal again steps waits e = subst G (err_is (Duplicate n) refusal e) (again refl)
by_change G false n changes earlier entry it refusal again steps waits e =
    by_said G (fault_of_entry n changes earlier it.1 entry.steps) (resolved_by changes it.0 entry.steps) refusal
    (by_either G (fault_of_steps n (is_some it.1.deposed) it.1.steps (map (λ step. step.outcome) entry.steps))
    (fault_of_waits n changes earlier entry.steps) refusal
    (by_steps G n (is_some it.1.deposed) it.1.steps entry.steps refusal steps) (by_waits G n changes earlier entry.steps refusal waits)) e

module _ (G : ScriptError → Type 0) (changes : List ResourceChange) (before : List Data) (d : Data) where
  -- what is asked of an entry of a change
  abbrev OfChange : Type 0
  OfChange = (entry : Entry) (it : ℕ × ResourceChange) (refusal : ScriptError) → entry_of d ≡ Some entry → change_of_entry changes entry ≡ Some it
      → refused_with (list_any (names_change it.1) before) (length before) changes (sum_by count_in before) entry it ≡ Err refusal → G refusal

  module _ (shape : entry_of d ≡ None → G (BadShape (Some (length before))))
      (unknown : (entry : Entry) → entry_of d ≡ Some entry → change_of_entry changes entry ≡ None → G (UnknownChange (length before)))
      (of_change : OfChange) where
    by_planned : (entry : Entry) → entry_of d ≡ Some entry → (o : Option (ℕ × ResourceChange)) → change_of_entry changes entry ≡ o → (refusal : ScriptError)
        → results.◌>>=◌ (or_refuse (UnknownChange (length before)) o)
        (λ it. refused_with (list_any (names_change it.1) before) (length before) changes (sum_by count_in before) entry it) ≡ Err refusal
        → G refusal
    by_planned entry is None about refusal e = subst G (err_is (UnknownChange (length before)) refusal e) (unknown entry is about)
    by_planned entry is (Some it) about refusal e = of_change entry it refusal is about e

    by_read : (o : Option Entry) → entry_of d ≡ o → (refusal : ScriptError)
        → results.◌>>=◌ (or_refuse (BadShape (Some (length before))) o)
        (λ entry. results.◌>>=◌ (or_refuse (UnknownChange (length before)) (change_of_entry changes entry))
        (λ it. refused_with (list_any (names_change it.1) before) (length before) changes (sum_by count_in before) entry it)) ≡ Err refusal
        → G refusal
    by_read None is refusal e = subst G (err_is (BadShape (Some (length before))) refusal e) (shape is)
    by_read (Some entry) is refusal e = by_planned entry is (change_of_entry changes entry) refl refusal e

    pub by_entry : (refusal : ScriptError) → entry_at changes before d ≡ Err refusal → G refusal
    unfolding entry_at
    by_entry refusal e = by_read (entry_of d) refl refusal e
