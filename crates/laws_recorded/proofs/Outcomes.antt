-- A recorded outcome may be written.
use Rattle.std.proofs.Common.{◌≡◌, ◌∙◌, ◌≤◌, ℕ, Bool, true, false, eqb, List, length, Option, None, Some, refl, sym, ap}
use Rattle.std.specs.Prelude.{◌&&◌, ◌||◌, is_none, is_some, not, slice_get}
use Rattle.std.specs.List.{AllByRecursion}
use Rattle.std.proofs.lemmas.Bool.{ltb-true}
use Rattle.apply_model.specs.declared.plan.step_kind.StepKind.TheVariants.{Create, Delete, Read}
use Rattle.apply_model.specs.declared.script.outcome.Outcome.{Outcome}
use Rattle.apply_model.specs.declared.script.wait.Wait.{Wait}
use Rattle.apply_model.specs.Plan.StepKind.{is_kind}
use Rattle.apply_model.specs.Script.Limits.{max_waits}
use Rattle.apply_model.specs.Script.Outcome.{is_warned}
use Rattle.apply_plan.specs.Script.Refusals.{has_provisioners, misplaces_provisioners, takes_provisioners, warns_not_a_read}
use Rattle.stream_record_outcomes.specs.Outcome.{IsAllowed}
use Rattle.stream_record_outcomes.specs.Provisioners.{may_provision}
use Rattle.stream_record_steps.specs.Steps.{PlannedStep}
use Rattle.laws_recorded.specs.Texts.{IsWritableRecording}
use Rattle.laws_recorded.proofs.Lists.{item_at}
use Rattle.laws_check.proofs.Given.{is_given}
use Rattle.stream_record_outcomes.specs.declared.recorded_step.RecordedStep.{RecordedStep}
use Rattle.laws_record.specs.Writable.{IsWritableOutcome}

-- ---- an outcome with its waits

-- with its waits an outcome may be written as well as without
pub outcome_is : (outcome : Outcome) (after : List Wait) → length after ≤ max_waits → IsWritableOutcome outcome → IsWritableOutcome (record outcome { after = after })
outcome_is outcome after few is = record {
  bounded = record {
    short = is.bounded.short;
    few_provisioners = is.bounded.few_provisioners;
    little_output = is.bounded.little_output;
    few_waits = few;
  };
  ending = is.ending;
  provisioners = is.provisioners;
  alone = is.alone;
}

-- that of the step at a place
pub outcome_at : (recorded : List (Option RecordedStep)) (place : ℕ) (found : RecordedStep) → AllByRecursion IsWritableRecording recorded
    → slice_get recorded place ≡ Some (Some found) → IsWritableOutcome found.outcome
outcome_at recorded place found all at = is_given IsWritableRecording (slice_get recorded place) (Some found) (item_at IsWritableRecording recorded place all) at

module _ (step : PlannedStep) (outcome : Outcome) (allowed : IsAllowed step outcome) where
  same_test : (deposed : Option (List ℕ)) → is_none deposed ≡ not (is_some deposed)
  same_test None = refl
  same_test (Some key) = refl

  fits : (a b : Bool) → (a ≡ true → b ≡ true) → (a && not b) ≡ false
  fits true b more = rw (more refl) refl
  fits false b more = refl

  takes : (k : ℕ) → step.number ≡ k → may_provision step ≡ true → takes_provisioners (is_some step.change.deposed) (k, step.kind) ≡ true
  takes k is may =
      ap (λ (d : Bool). is_kind Create step.kind || (is_kind Delete step.kind && (eqb k 0 && d))) (sym (same_test step.change.deposed))
      ∙ ap (λ (n : ℕ). is_kind Create step.kind || (is_kind Delete step.kind && (eqb n 0 && is_none step.change.deposed))) (sym is)
      ∙ may

  -- a run takes its provisioners
  pub well_placed : (k : ℕ) (after : List Wait) → step.number ≡ k → misplaces_provisioners (is_some step.change.deposed) ((k, step.kind), Some (record outcome { after = after })) ≡ false
  well_placed k after is =
      fits (has_provisioners outcome) (takes_provisioners (is_some step.change.deposed) (k, step.kind))
      (λ has. takes k is (allowed.provisioned (ltb-true 0 (length outcome.provisioners) has)))

  -- and its warning
  pub only_reads : (k : ℕ) (after : List Wait) → warns_not_a_read ((k, step.kind), Some (record outcome { after = after })) ≡ false
  only_reads k after = fits (is_warned outcome.result) (is_kind Read step.kind) allowed.only_reads_warn
