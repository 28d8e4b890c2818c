-- Steps and provisioners within the limits.
use Rattle.std.proofs.Common.{◌≡◌, ℕ, ◌+◌, ◌<◌, ◌≤◌, Bool, true, false, cond, List, [], ◌∷◌, length, map, get_or, Option, Some, None, refl, sym, ap, subst, ◌∙◌, arith, ⊎_elim}
use Rattle.std.specs.Prelude.{IfSome, is_some, nat_lt, option_map}
use Rattle.std.specs.List.{All, cons_option, filter_map, list_any}
use Rattle.std.specs.Option.{option_or}
use Rattle.std.proofs.lemmas.Bool.{cases_Bool, ltb-false}
use Rattle.std.proofs.lemmas.List.{get_or-map, length-map}
use Rattle.std.proofs.lemmas.List.Elements.{All-map}
use Rattle.std.proofs.lemmas.List.Folds.{list_any_at}
use Rattle.std.proofs.lemmas.List.Sums.{sum_by_more_le}
use Rattle.apply_model.specs.declared.plan.step_kind.StepKind.{StepKind}
use Rattle.apply_model.specs.declared.script.outcome.Outcome.{Outcome}
use Rattle.apply_model.specs.declared.script.wait.Wait.{Wait}
use Rattle.apply_plan.specs.declared.script.script_error.ScriptError.{ScriptError}
use Rattle.apply_plan.specs.declared.script.script_error.ScriptError.TheVariants.{TooManySteps, SecondsRange, TooManyProvisioners, TooMuchOutput, TooManyWaits}
use Rattle.apply_plan.specs.declared.script.raw_outcome.RawOutcome.{RawOutcome}
use Rattle.apply_plan.specs.declared.script.raw_step.RawStep.{RawStep}
use Rattle.apply_model.specs.Plan.ResourceChange.{ResourceChange}
use Rattle.apply_model.specs.Script.Limits.{max_outputs, max_provisioners, max_seconds, max_waits}
use Rattle.apply_model.specs.Script.Outcome.{IsBounded, has_too_many_provisioners, has_too_much_output, is_too_long, puts_out_too_much, seconds_in_all}
use Rattle.apply_plan.specs.Script.EntriesView.{IsWithin}
use Rattle.apply_plan.specs.Script.Entry.{EntryStep}
use Rattle.apply_plan.specs.Script.Refusals.{count_of_waits, fault_of_entry, fault_of_steps, fault_of_waits, passes}
use Rattle.apply_plan.specs.Script.RawView.{outcome_view, step_view}
use Rattle.apply_plan.specs.Script.WaitedStep.{resolved_step, step_waited, with_waits}
use Rattle.apply_plan.proofs.Scripts.Refusals.{list_any-map}

none_passes : {X : Type 0} (p : X → Bool) (xs : List X) → list_any p xs ≡ false → (k : ℕ) (d : X) → k < length xs → p (get_or xs k d) ≡ false
none_passes p xs none k d below =
    ⊎_elim
    (λ (yes : p (get_or xs k d) ≡ true). let located : list_any p xs ≡ true = list_any_at p xs k d below yes in absurd cc)
    (λ (no : p (get_or xs k d) ≡ false). no)
    (cases_Bool (p (get_or xs k d)))

pub not_refused : (b : Bool) (refusal : ScriptError) (o : Option ScriptError) → cond b (Some refusal) o ≡ None → (b ≡ false) × (o ≡ None)
not_refused true refusal o e = absurd cc
not_refused false refusal o e = (refl, e)

bounded : (outcome : Outcome) → is_too_long outcome ≡ false → has_too_many_provisioners outcome ≡ false → has_too_much_output outcome ≡ false → length outcome.after ≤ max_waits → IsBounded outcome
bounded outcome short few little waits = record {
  short = ltb-false max_seconds (seconds_in_all outcome) short;
  few_provisioners = ltb-false max_provisioners (length outcome.provisioners) few;
  little_output = λ k d below. ltb-false max_outputs (length (get_or outcome.provisioners k d).output) (none_passes puts_out_too_much outcome.provisioners little k d below);
  few_waits = waits;
}

-- the outcome of a step that exceeds no limit
bounded_if : (outcome : Option Outcome) → passes is_too_long outcome ≡ false → passes has_too_many_provisioners outcome ≡ false → passes has_too_much_output outcome ≡ false → IfSome outcome (λ outcome. length outcome.after ≤ max_waits)
    → IfSome outcome IsBounded
bounded_if None short few little waits = tt
bounded_if (Some outcome) short few little waits = bounded outcome short few little waits

-- without a fault each step is within the limits, if it does not wait for too many
none_is_bounded : (n : ℕ) (deposed : Bool) (kinds : List StepKind) (steps : List (Option Outcome)) → All (λ outcome. IfSome outcome (λ outcome. length outcome.after ≤ max_waits)) steps → fault_of_steps n deposed kinds steps ≡ None
    → All (λ outcome. IfSome outcome IsBounded) steps
unfolding fault_of_steps
none_is_bounded n deposed kinds steps waits e =
    let many = not_refused (nat_lt (length kinds) (length steps)) (TooManySteps n) _ e in
    let long = not_refused (list_any (passes is_too_long) steps) (SecondsRange n) _ many.1 in
    let wide = not_refused (list_any (passes has_too_many_provisioners) steps) (TooManyProvisioners n) _ long.1 in
    let loud = not_refused (list_any (passes has_too_much_output) steps) (TooMuchOutput n) _ wide.1 in
    λ k d below.
    bounded_if (get_or steps k d) (none_passes (passes is_too_long) steps long.0 k d below) (none_passes (passes has_too_many_provisioners) steps wide.0 k d below)
    (none_passes (passes has_too_much_output) steps loud.0 k d below) (waits k d below)

no_waits : (outcome : Option RawOutcome) → IfSome (option_map outcome_view outcome) (λ outcome. length outcome.after ≤ max_waits)
no_waits None = tt
no_waits (Some outcome) = omega arith

-- steps as a reader stores them, without what they wait for
pub none_in_tree : (n : ℕ) (deposed : Bool) (kinds : List StepKind) (steps : List RawStep) → fault_of_steps n deposed kinds (map step_view steps) ≡ None → All (λ outcome. IfSome outcome IsBounded) (map step_view steps)
none_in_tree n deposed kinds steps e =
    none_is_bounded n deposed kinds (map step_view steps)
    (All-map (λ (outcome : Option Outcome). IfSome outcome (λ outcome. length outcome.after ≤ max_waits)) step_view steps (λ k d below. no_waits (get_or steps k d).outcome)) e

longer : {X Y : Type 0} (o : Option Y) (ys : List Y) (x : X) (xs : List X) → length ys ≤ length xs → length (cons_option o ys) ≤ length (x ∷ xs)
longer None ys x xs h = omega arith
longer (Some y) ys x xs h = omega arith

fewer : {X Y : Type 0} (h : X → Option Y) (xs : List X) → length (filter_map h xs) ≤ length xs
fewer h [] = omega arith
fewer h (x ∷ xs) = longer (h x) (filter_map h xs) x xs (fewer h xs)

pub both_none : {E : Type 0} (a b : Option E) → option_or a b ≡ None → (a ≡ None) × (b ≡ None)
both_none None b e = (refl, e)
both_none (Some x) b e = absurd cc

-- a step that exceeds no limit is within the limits, with what it waits for
within_if : (outcome : Option Outcome) (waits : List Wait) → passes is_too_long outcome ≡ false → passes has_too_many_provisioners outcome ≡ false → passes has_too_much_output outcome ≡ false → length waits ≤ max_waits
    → IsWithin (with_waits outcome waits)
within_if None waits short few little enough = tt
within_if (Some outcome) waits short few little enough = bounded (record outcome { after = waits }) short few little enough

-- the steps of an entry without a fault are within the limits
pub said_is_within : (n : ℕ) (changes : List ResourceChange) (earlier : ℕ) (change : ResourceChange) (steps : List EntryStep) → fault_of_entry n changes earlier change steps ≡ None → All IsWithin (map (resolved_step changes) steps)
unfolding fault_of_steps fault_of_waits
said_is_within n changes earlier change steps e =
    let outcome = λ (step : EntryStep). step.outcome in
    let none = both_none (fault_of_steps n (is_some change.deposed) change.steps (map outcome steps)) (fault_of_waits n changes earlier steps) e in
    let many = not_refused (nat_lt (length change.steps) (length (map outcome steps))) (TooManySteps n) _ none.0 in
    let long = not_refused (list_any (passes is_too_long) (map outcome steps)) (SecondsRange n) _ many.1 in
    let wide = not_refused (list_any (passes has_too_many_provisioners) (map outcome steps)) (TooManyProvisioners n) _ long.1 in
    let loud = not_refused (list_any (passes has_too_much_output) (map outcome steps)) (TooMuchOutput n) _ wide.1 in
    let waits = not_refused (nat_lt max_waits (earlier + count_of_waits steps)) (TooManyWaits n) _ none.1 in
    All-map IsWithin (resolved_step changes) steps (λ k d below.
    let step = get_or steps k d in
    let few : length (filter_map (step_waited changes) step.after) ≤ max_waits =
    omega (arith, fewer (step_waited changes) step.after, sum_by_more_le (λ (s : EntryStep). length s.after) steps k d below, ltb-false max_waits (earlier + count_of_waits steps) waits.0) in
    within_if step.outcome (filter_map (step_waited changes) step.after)
    (none_passes (λ (s : EntryStep). passes is_too_long s.outcome) steps (sym (list_any-map (passes is_too_long) outcome steps) ∙ long.0) k d below)
    (none_passes (λ (s : EntryStep). passes has_too_many_provisioners s.outcome) steps (sym (list_any-map (passes has_too_many_provisioners) outcome steps) ∙ wide.0) k d below)
    (none_passes (λ (s : EntryStep). passes has_too_much_output s.outcome) steps (sym (list_any-map (passes has_too_much_output) outcome steps) ∙ loud.0) k d below)
    few)

-- what holds for each item of a list, as contracts see it, holds for one
pub all_seen : {T A : Type 0} (P : A → Type 0) (see : T → A) (xs : List T) (k : ℕ) (x : T) → All P (map see xs) → k < length xs → x ≡ get_or xs k x → P (see x)
all_seen P see xs k x all below is =
    let within : k < length (map see xs) = rw (length-map xs see) below in
    subst P (get_or-map see xs k x (see x) below ∙ ap see (sym is)) (all k (see x) within)
