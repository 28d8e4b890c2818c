-- A work that goes alike with a script goes alike with what the text of the script states.
use Rattle.std.proofs.Common.{◌≡◌, ◌∙◌, ◌<◌, ◌≤◌, ℕ, zero, suc, true, false, List, [], ◌∷◌, length, take, Option, None, Some, refl, sym, ap, arith, subst, ◌⊎◌, inl, inr, ⊎_elim}
use Rattle.std.specs.Prelude.{option_and_then, slice_get, unwrap_or}
use Rattle.std.specs.List.{Contains}
use Rattle.std.specs.Option.{option_map_or}
use Rattle.std.proofs.lemmas.Option.{slice_get_within}
use Rattle.apply_model.specs.declared.plan.step_kind.StepKind.{StepKind}
use Rattle.apply_model.specs.declared.script.outcome.Outcome.{Outcome}
use Rattle.apply_model.specs.declared.script.script_step.ScriptStep.{ScriptStep}
use Rattle.apply_model.specs.declared.script.wait.Wait.{Wait}
use Rattle.apply_model.specs.Plan.ResourceChange.{ResourceChange}
use Rattle.apply_model.specs.Plan.SavedPlan.{SavedPlan}
use Rattle.apply_model.specs.Script.Outcome.{default_outcome}
use Rattle.apply_model.specs.Script.OutcomeMap.{OutcomeMap, outcome_of}
use Rattle.apply_model.specs.Script.Step.{answer_to}
use Rattle.apply_model.specs.Script.Waits.{names_a_wait, waits_of}
use Rattle.apply_events.specs.Step.{Work, kinds_applied, kinds_of}
use Rattle.apply_events.specs.Waits.Schedule.{schedule}
use Rattle.laws_lanes.specs.Alike.{BeginsAlike, GoesAlike, IsAnsweredAlike, WaitsInVain, is_begun}
use Rattle.laws_record.specs.Writable.{written}
use Rattle.laws_record.proofs.Whole.{same_skipped, same_step}
use Rattle.laws_waits.specs.Again.{with_script}

with_kinds : (changes : List ResourceChange) (c k : ℕ) → k < length (option_map_or (λ own. own.steps) (slice_get changes c) []) → c < length changes
with_kinds changes c k less = by (slice_get changes c) refl less
  where
    by : (o : Option ResourceChange) → slice_get changes c ≡ o → k < length (option_map_or (λ own. own.steps) o []) → c < length changes
    by None at inside = absurd (omega (arith, inside))
    by (Some change) at inside = slice_get_within changes c change at

-- The text states the outcome of each step of the plan.
pub same_outcome : (plan : SavedPlan) (script : OutcomeMap) (c k : ℕ) → k < length (kinds_of plan c) → outcome_of (written plan.changes script) c k ≡ outcome_of script c k
same_outcome plan script c k less =
    ap (λ (o : Option ScriptStep). unwrap_or (option_and_then answer_to o) default_outcome) (same_step plan.changes script c k (with_kinds plan.changes c k less))

module _ (work : Work) (script : OutcomeMap) (n : ℕ) (goes : GoesAlike work (with_script work script) n) where
  abbrev text : OutcomeMap
  text = written work.plan.changes script

  module _ (c k : ℕ) (less : k < length (kinds_of work.plan c)) where
    same_kinds : kinds_applied work.plan (written work.plan.changes script) c ≡ kinds_applied work.plan script c
    same_kinds =
        ap (λ (o : Option ℕ). option_map_or (λ (skipped : ℕ). take skipped (kinds_of work.plan c)) o (kinds_of work.plan c))
        (same_skipped work.plan.changes script c (with_kinds work.plan.changes c k less))

  same_waits : (c k : ℕ) → k < length (kinds_of work.plan c) → waits_of (written work.plan.changes script) c k ≡ waits_of script c k
  same_waits c zero less = ap (λ (o : Outcome). o.after) (same_outcome work.plan script c zero less)
  same_waits c (suc k) less = ap (λ (o : Outcome). record { change = c; step = k } ∷ o.after) (same_outcome work.plan script c (suc k) less)

  begins_as_written : (c k : ℕ) (kind : StepKind) → is_begun work (schedule work n) c k ≡ true → slice_get (kinds_of work.plan c) k ≡ Some kind
      → BeginsAlike work (with_script work (written work.plan.changes script)) c k kind
  begins_as_written c k kind begins at =
      let is = goes.begun c k kind begins at in
      let less = slice_get_within (kinds_of work.plan c) k kind at in
      let kinds = ap (length {A = StepKind}) (same_kinds c k less) in
      let applied = is.applied in record {
        applied = omega (arith, applied, kinds);
        alike = subst (IsAnsweredAlike kind (outcome_of work.script c k)) (sym (same_outcome work.plan script c k less)) is.alike;
        waits = λ name has. subst (λ (names : List Wait). Contains names name) (sym (same_waits c k less)) (is.waits name has);
        no_more = λ name has. is.no_more name (subst (λ (names : List Wait). Contains names name) (same_waits c k less) has);
        named = ap names_a_wait (same_outcome work.plan script c k less) ∙ is.named;
      }

  left_as_written : (c k : ℕ) → k < length (kinds_of work.plan c) → is_begun work (schedule work n) c k ≡ false
      → (length (kinds_applied work.plan (written work.plan.changes script) c) ≤ k) ⊎ WaitsInVain work (with_script work (written work.plan.changes script)) n c k
  left_as_written c k less not_begun = ⊎_elim
      (λ (out : length (kinds_applied work.plan script c) ≤ k). let kinds = ap (length {A = StepKind}) (same_kinds c k less) in inl (omega (arith, out, kinds)))
      (λ (vain : WaitsInVain work (with_script work script) n c k). inr (record {
        name = vain.name;
        waits = subst (λ (names : List Wait). Contains names vain.name) (sym (same_waits c k less)) vain.waits;
        never = vain.never;
      }))
      (goes.left_out c k less not_begun)

  pub goes_as_written : GoesAlike work (with_script work (written work.plan.changes script)) n
  goes_as_written = record {
    plan = refl;
    hooks = goes.hooks;
    other_hooks = refl;
    some = goes.some;
    few = goes.few;
    begun = begins_as_written;
    left_out = left_as_written;
  }
