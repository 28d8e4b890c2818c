-- Waits are resolved to the steps that they were written for.
use Rattle.std.proofs.Common.{◌≡◌, ℕ, suc, ◌+◌, ◌-◌, ◌==◌, ◌<◌, List, [], ◌∷◌, Bool, true, false, cond, length, map, slice_get, Option, Some, None, option_map, option_and_then, unwrap_or, refl, sym, ap, ap₂, ◌∙◌, subst, arith}
use Rattle.std.specs.Prelude.{filter_map, ◌||◌, is_none, is_some, nat_le, nat_lt}
use Rattle.std.specs.List.{AllByRecursion, cons_option, list_any}
use Rattle.std.specs.Option.{option_map_or}
use Rattle.std.proofs.lemmas.Bool.{eqb-true, lt-leb, lt-ltb, ltb-true}
use Rattle.std.proofs.lemmas.List.Sums.{sum_by-cons}
use Rattle.std.proofs.lemmas.Option.{same_Some}
use Rattle.apply_model.specs.declared.script.script_step.ScriptStep.{ScriptStep}
use Rattle.apply_model.specs.declared.script.script_step.ScriptStep.TheVariants.{Answered, Skipped}
use Rattle.apply_model.specs.declared.script.wait.Wait.{Wait}
use Rattle.apply_model.specs.Plan.ResourceChange.{ResourceChange}
use Rattle.apply_model.specs.Script.Step.{after_of}
use Rattle.apply_plan.specs.Script.Entry.{EntryStep, WaitName}
use Rattle.apply_plan.specs.Script.Refusals.{count_of_waits, is_any_wait, is_unknown, lacks_step}
use Rattle.apply_plan.specs.Script.WaitedStep.{change_waited, resolved_step, step_of_change, step_waited, with_waits}
use Rattle.stream_record.specs.ScriptText.{waited_change, with_step}
use Rattle.laws_record.specs.Writable.{HasStep, NamesEachObjectOnce, waits_in_steps}
use Rattle.laws_record.proofs.Objects.{located}
use Rattle.laws_record.proofs.StepsBack.{bare_outcome, wait_name, wait_names, written_step}

-- ---- one wait

-- a change that has the step
record IsWaited (changes : List ResourceChange) (wait : Wait) (change : ResourceChange) : Type 0 where
  stands : slice_get changes wait.change ≡ Some change
  has : wait.step < length change.steps

waited : (changes : List ResourceChange) (wait : Wait) (change : ResourceChange) → waited_change changes wait ≡ Some change → IsWaited changes wait change
waited changes wait change is = of_change (slice_get changes wait.change) refl is
  where
    of_step : (b : Bool) (x : ResourceChange) → nat_lt wait.step (length x.steps) ≡ b → slice_get changes wait.change ≡ Some x → cond b (Some x) None ≡ Some change → IsWaited changes wait change
    of_step true x less stands e =
        let same = same_Some x change e in
        record { stands = stands ∙ ap Some same; has = subst (λ (c : ResourceChange). wait.step < length c.steps) same (ltb-true wait.step (length x.steps) less) }
    of_step false x less stands e = absurd cc

    of_change : (o : Option ResourceChange) → slice_get changes wait.change ≡ o → option_and_then (with_step wait.step) o ≡ Some change → IsWaited changes wait change
    of_change None stands e = absurd cc
    of_change (Some x) stands e = of_step (nat_lt wait.step (length x.steps)) x refl stands e

-- the number that a written wait has
number_is : (last : Bool) (step count : ℕ) → (step + 1 == count) ≡ last → unwrap_or (cond last None (Some step)) (count - 1) ≡ step
number_is true step count is = let e = eqb-true (step + 1) count is in omega arith
number_is false step count is = refl

module _ (changes : List ResourceChange) (once : NamesEachObjectOnce changes) where
  change_located : (wait : Wait) (change : ResourceChange) → IsWaited changes wait change → change_waited changes (wait_name wait.step change) ≡ Some (wait.change, change)
  change_located wait change is =
      let place : 0 + wait.change ≡ wait.change = omega arith in
      located 0 wait.change changes change once is.stands ∙ ap (λ n. Some (n, change)) place

  step_located : (wait : Wait) (change : ResourceChange) → IsWaited changes wait change → step_waited changes (wait_name wait.step change) ≡ Some wait
  step_located wait change is =
      let count = length change.steps in
      let number = number_is (wait.step + 1 == count) wait.step count refl in
      ap (option_and_then (step_of_change (wait_name wait.step change))) (change_located wait change is)
      ∙ (λ i. cond (nat_lt (number i) count) (Some (record { change = wait.change; step = number i })) None)
      ∙ (λ i. cond (lt-ltb wait.step count is.has i) (Some wait) None)

  not_lacking : (wait : Wait) (change : ResourceChange) → IsWaited changes wait change → lacks_step changes (wait_name wait.step change) ≡ false
  not_lacking wait change is =
      ap (λ o. option_map_or (λ (p : ℕ × ResourceChange). option_map_or (λ number. nat_le (length p.1.steps) number) (cond (wait.step + 1 == length change.steps) None (Some wait.step)) false) o false)
      (change_located wait change is)
      ∙ of_test (wait.step + 1 == length change.steps)
    where
      of_test : (b : Bool) → option_map_or (λ number. nat_le (length change.steps) number) (cond b None (Some wait.step)) false ≡ false
      of_test true = refl
      of_test false = lt-leb (length change.steps) wait.step is.has

  -- ---- all waits of a step

  record AreResolved (found : List WaitName) (waits : List Wait) : Type 0 where
    back : filter_map (step_waited changes) found ≡ waits
    known : list_any (is_unknown changes) found ≡ false
    whole : list_any (lacks_step changes) found ≡ false
    count : length found ≡ length waits

  all_resolved : (waits : List Wait) → AllByRecursion (HasStep changes) waits → AreResolved (wait_names changes waits) waits
  all_resolved [] all = record { back = refl; known = refl; whole = refl; count = refl }
  all_resolved (wait ∷ waits) all = of_change (waited_change changes wait) refl all.0 (all_resolved waits all.1)
    where
      of_change : (o : Option ResourceChange) → waited_change changes wait ≡ o → is_some o ≡ true → AreResolved (wait_names changes waits) waits
          → AreResolved (cons_option (option_map (wait_name wait.step) o) (wait_names changes waits)) (wait ∷ waits)
      of_change None is some rest = absurd cc
      of_change (Some change) is some rest =
          let one = waited changes wait change is in
          let found = change_located wait change one in
          let lacking = not_lacking wait change one in
          record {
            back = ap₂ cons_option (step_located wait change one) rest.back;
            known = λ i. is_none (found i) || rest.known i;
            whole = λ i. lacking i || rest.whole i;
            count = ap suc rest.count;
          }

  -- ---- all steps of an entry

  step_resolved : (step : ScriptStep) → AllByRecursion (HasStep changes) (after_of step) → resolved_step changes (written_step changes step) ≡ step
  step_resolved (Answered outcome) all = ap (λ (waits : List Wait). with_waits (bare_outcome (Answered outcome)) waits) (all_resolved outcome.after all).back
  step_resolved (Skipped waits) all = ap (λ (waits : List Wait). Skipped waits) (all_resolved waits all).back

  pub record HasResolved (steps : List ScriptStep) : Type 0 where
    pub back : map (resolved_step changes) (map (written_step changes) steps) ≡ steps
    pub known : is_any_wait (is_unknown changes) (map (written_step changes) steps) ≡ false
    pub whole : is_any_wait (lacks_step changes) (map (written_step changes) steps) ≡ false
    pub count : count_of_waits (map (written_step changes) steps) ≡ waits_in_steps steps

  pub steps_resolved : (steps : List ScriptStep) → AllByRecursion (λ step. AllByRecursion (HasStep changes) (after_of step)) steps → HasResolved steps
  steps_resolved [] all = record { back = refl; known = refl; whole = refl; count = refl }
  steps_resolved (step ∷ steps) all =
      let rest = steps_resolved steps all.1 in
      let waits = all_resolved (after_of step) all.0 in
      let first = sum_by-cons (λ (s : EntryStep). length s.after) (written_step changes step) (map (written_step changes) steps) in
      let second = sum_by-cons (λ (s : ScriptStep). length (after_of s)) step steps in
      record {
        back = ap₂ (λ (s : ScriptStep) (ss : List ScriptStep). s ∷ ss) (step_resolved step all.0) rest.back;
        known = λ i. waits.known i || rest.known i;
        whole = λ i. waits.whole i || rest.whole i;
        count = first ∙ ap₂ (λ m n. m + n) waits.count rest.count ∙ sym second;
      }
