-- The texts of a plan and a script that messages contain are UTF-8.
use Rattle.std.proofs.Common.{ℕ, List, [], ◌∷◌, IsUtf8, slice_get, unwrap_or, Option, Some, None, cond, Bool, true, false}
use Rattle.std.specs.Prelude.{IfSome}
use Rattle.std.specs.List.{AllByRecursion}
use Rattle.std.specs.Option.{option_map_or}
use Rattle.std.proofs.lemmas.Str.{IsUtf8-nil}
use Rattle.apply_model.specs.declared.script.ending.Ending.{Ending}
use Rattle.apply_model.specs.declared.script.ending.Ending.TheVariants.{Done, Failed, Warned}
use Rattle.apply_model.specs.declared.script.outcome.Outcome.{Outcome}
use Rattle.apply_model.specs.declared.script.provisioner.Provisioner.{Provisioner}
use Rattle.apply_model.specs.declared.script.timed_text.TimedText.{TimedText}
use Rattle.laws_run.specs.Plans.{HasRelativeAddress}
use Rattle.apply_plan.specs.Plan.SavedPlan.{SavedPlan}
use Rattle.apply_plan.specs.Script.Outcome.{default_outcome, diag_of_ending, failure_by, failure_of, first_diag}
use Rattle.apply_plan.specs.Script.OutcomeMap.{OutcomeMap, stated_outcome, outcome_of}
use Rattle.apply_text.specs.Message.{no_diag, failure_diag, provider_id, warning_of}
use Rattle.laws_check.specs.FormTexts.{HasVerbatimDiagnostics}
use Rattle.laws_check.specs.Texts.{HasOutcomeTexts, HasTexts}
use Rattle.laws_check.proofs.Given.{first_of_two, held_at, is_given, unwrapped}
use Rattle.laws_check.proofs.VerbatimDiagnostics.{HasStatedDiagnostic, has_verbatim}
use Rattle.laws_check.proofs.PlanTexts.{IsReadable, IsReadablePlan, change_texts}
use Rattle.laws_check.proofs.ScriptTexts.{HasEndingTexts, HasProvisionerTexts, HasStepTexts, HasTimedText, IsReadableScript, IsConsistent, MayHaveDiag}

-- ---- a step

nothing : HasStatedDiagnostic no_diag
nothing = (record { summary = IsUtf8-nil; detail = IsUtf8-nil }, has_verbatim [] [] None None tt tt)

why_it_ended : (result : Ending) → HasEndingTexts result → MayHaveDiag (diag_of_ending result)
why_it_ended (Done id warning) h = tt
why_it_ended (Failed diag) h = h
why_it_ended (Warned diag) h = tt

why_first : (provisioners : List Provisioner) → AllByRecursion HasProvisionerTexts provisioners → MayHaveDiag (first_diag provisioners)
why_first [] h = tt
why_first (p ∷ ps) h = first_of_two HasStatedDiagnostic (failure_by p) (first_diag ps) (unless p.may_fail h.0.failed) (why_first ps h.1)
  where
    unless : (b : Bool) → MayHaveDiag p.failed → MayHaveDiag (cond b None p.failed)
    unless true why = tt
    unless false why = why

id_of : (result : Ending) → HasEndingTexts result → IfSome (provider_id result) IsUtf8
id_of (Done id warning) h = h.0
id_of (Failed diag) h = tt
id_of (Warned diag) h = tt

warned : (result : Ending) → HasEndingTexts result → HasStatedDiagnostic (warning_of result)
warned (Done id warning) h = unwrapped HasStatedDiagnostic warning no_diag h.1 nothing
warned (Failed diag) h = nothing
warned (Warned diag) h = h

name_at : (located : Option Provisioner) → IfSome located HasProvisionerTexts → IsUtf8 (option_map_or (λ (provisioner : Provisioner). provisioner.name) located [])
name_at None h = IsUtf8-nil
name_at (Some provisioner) h = h.name

text_at : (located : Option TimedText) → IfSome located HasTimedText → IsUtf8 (option_map_or (λ (timed : TimedText). timed.text) located [])
text_at None h = IsUtf8-nil
text_at (Some timed) h = h

output_at : (line : ℕ) (located : Option Provisioner) → IfSome located HasProvisionerTexts
    → IsUtf8 (option_map_or (λ (provisioner : Provisioner). option_map_or (λ (timed : TimedText). timed.text) (slice_get provisioner.output line) []) located [])
output_at line None h = IsUtf8-nil
output_at line (Some provisioner) h = text_at (slice_get provisioner.output line) (held_at HasTimedText provisioner.output line h.output)

failed : (outcome : Outcome) → HasStepTexts outcome → HasStatedDiagnostic (failure_diag outcome)
failed outcome has =
    unwrapped HasStatedDiagnostic (failure_of outcome) no_diag
    (first_of_two HasStatedDiagnostic (diag_of_ending outcome.result) (first_diag outcome.provisioners) (why_it_ended outcome.result has.result) (why_first outcome.provisioners has.provisioners)) nothing

outcome_texts : (outcome : Outcome) → HasStepTexts outcome → HasOutcomeTexts outcome
outcome_texts outcome has = record {
  id = id_of outcome.result has.result;
  failure = (failed outcome has).0;
  warning = (warned outcome.result has.result).0;
  names = λ i. name_at (slice_get outcome.provisioners i) (held_at HasProvisionerTexts outcome.provisioners i has.provisioners);
  outputs = λ i line. output_at line (slice_get outcome.provisioners i) (held_at HasProvisionerTexts outcome.provisioners i has.provisioners);
}

default_texts : HasStepTexts default_outcome
default_texts = record { result = (tt, tt); provisioners = tt }

outcome_verbatim : (outcome : Outcome) → HasStepTexts outcome → HasVerbatimDiagnostics outcome
outcome_verbatim outcome has = record { failure = (failed outcome has).1; warning = (warned outcome.result has.result).1 }

given_texts : (located : Option Outcome) → IfSome located IsConsistent → HasOutcomeTexts (unwrap_or located default_outcome)
given_texts None h = outcome_texts default_outcome default_texts
given_texts (Some outcome) h = outcome_texts outcome h.texts

given_verbatim : (located : Option Outcome) → IfSome located IsConsistent → HasVerbatimDiagnostics (unwrap_or located default_outcome)
given_verbatim None h = outcome_verbatim default_outcome default_texts
given_verbatim (Some outcome) h = outcome_verbatim outcome h.texts

-- ---- the plan and the script

pub read_texts : (plan : SavedPlan) (script : OutcomeMap) → IsReadablePlan plan → AllByRecursion HasRelativeAddress plan.changes → IsReadableScript script → HasTexts plan script
read_texts plan script readable relative stated = record {
  version = readable.version;
  changes = λ c change is.
      change_texts change (is_given IsReadable (slice_get plan.changes c) change (held_at IsReadable plan.changes c readable.changes) is)
      (is_given HasRelativeAddress (slice_get plan.changes c) change (held_at HasRelativeAddress plan.changes c relative) is);
  outcomes = λ c k. given_texts (stated_outcome script c k) (stated c k);
}

-- the verbatim texts of a script's diagnostics are values
pub read_verbatim : (script : OutcomeMap) → IsReadableScript script → (c k : ℕ) → HasVerbatimDiagnostics (outcome_of script c k)
read_verbatim script stated c k = given_verbatim (stated_outcome script c k) (stated c k)
