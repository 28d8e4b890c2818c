-- The provisioners of an outcome have sound texts.
use Rattle.std.proofs.Common.{ℕ, ℤ, ◌-◌, ◌==◌, List, [], ◌∷◌, ◌++◌, IsUtf8, cond, drop, length, max, take, Bool, true, false, Option, Some, None, refl}
use Rattle.std.specs.Prelude.{IfSome, codes, nat_le, option_map}
use Rattle.std.specs.List.{AllByRecursion, position_or_len}
use Rattle.std.proofs.lemmas.Str.{IsUtf8-nil}
use Rattle.json.proofs.Printed.Utf8.{IsUtf8-are_ascii}
use Rattle.apply_model.specs.declared.script.diag.Diag.{Diag}
use Rattle.apply_model.specs.declared.script.timed_text.TimedText.{TimedText}
use Rattle.apply_model.specs.Script.Limits.{max_outputs, max_provisioners}
use Rattle.stream_record_steps.specs.declared.begun_step.BegunStep.{BegunStep}
use Rattle.stream_record_steps.specs.declared.step_facts.StepFact.{StepFact}
use Rattle.stream_record_steps.specs.declared.step_facts.Stated.{Stated}
use Rattle.stream_record_steps.specs.declared.step_facts.Stated.TheVariants as stated
use Rattle.stream_record_outcomes.specs.Provisioners.{ProvisionerRun, at_once, begins, begun_name, error_of_run, kept_runs, name_or_mark, output_of, outputs_of_run, provisioner_of, provisioners_of, run_before, run_from, runs_in, seconds_of_run, timed_output, unknown_error, went_on}
use Rattle.stream_record_outcomes.specs.Times.{TimedFact, bounded, rising, timed_facts}
use Rattle.laws_recorded.specs.Texts.{IsSoundProvisioner, depth_recorded}
use Rattle.laws_record.specs.Writable.{IsFilled, IsWritableDiag}
use Rattle.laws_recorded.proofs.BegunTexts.{IsSoundFact, IsSoundStated, IsSoundStep}
use Rattle.laws_check.proofs.Given.{mapped}
use Rattle.laws_recorded.proofs.Lists.{dropped, given_ones, joined, taken}

-- ---- facts and runs

abbrev pub IsSoundTimed : TimedFact → Type 0
IsSoundTimed fact = IsSoundStated fact.stated

bounded_sound : (begin : ℤ) (whole : ℕ) (facts : List StepFact) → AllByRecursion IsSoundFact facts → AllByRecursion IsSoundTimed (bounded begin whole facts)
bounded_sound begin whole [] h = tt
bounded_sound begin whole (fact ∷ facts) h = (h.0, bounded_sound begin whole facts h.1)

rising_sound : (low : ℕ) (facts : List TimedFact) → AllByRecursion IsSoundTimed facts → AllByRecursion IsSoundTimed (rising low facts)
rising_sound low [] h = tt
rising_sound low (fact ∷ facts) h = (h.0, rising_sound (max low fact.second) facts h.1)

pub timed_sound : (whole : ℕ) (step : BegunStep) → IsSoundStep step → AllByRecursion IsSoundTimed (timed_facts whole step)
timed_sound whole step h = rising_sound 0 (bounded step.second whole step.facts) (bounded_sound step.second whole step.facts h.facts)

pub record IsSoundRun (run : ProvisionerRun) : Type 0 where
  pub name : IsUtf8 run.name
  pub facts : AllByRecursion IsSoundTimed run.facts

name_sound : (s : Stated) → IsSoundStated s → IfSome (begun_name s) IsUtf8
name_sound (stated.Progress seconds) h = tt
name_sound (stated.ProvisionerBegan name) h = h
name_sound (stated.Wrote output) h = tt
name_sound stated.ProvisionerEnded h = tt
name_sound stated.ProvisionerFailed h = tt

one_before : (o : Option ProvisionerRun) (runs : List ProvisionerRun) → IfSome o IsSoundRun → AllByRecursion IsSoundRun runs → AllByRecursion IsSoundRun (run_before o runs)
one_before None runs one h = h
one_before (Some run) runs one h = (one, h)

pub runs_sound : (to_own_end : Bool) (whole : ℕ) (facts : List TimedFact) → AllByRecursion IsSoundTimed facts → AllByRecursion IsSoundRun (runs_in to_own_end whole facts)
runs_sound to_own_end whole [] h = tt
runs_sound to_own_end whole (fact ∷ facts) h =
    one_before (option_map (run_from to_own_end whole fact.second facts) (begun_name fact.stated)) (runs_in to_own_end whole facts)
    (mapped IsUtf8 IsSoundRun (run_from to_own_end whole fact.second facts) (begun_name fact.stated)
    (λ name utf8. record { name = utf8; facts = taken IsSoundTimed (position_or_len begins facts) facts h.1 }) (name_sound fact.stated h.0))
    (runs_sound to_own_end whole facts h.1)

pub at_once_sound : (runs : List ProvisionerRun) → AllByRecursion IsSoundRun runs → AllByRecursion IsSoundRun (at_once runs)
at_once_sound [] h = tt
at_once_sound (run ∷ runs) h = (record { name = h.0.name; facts = h.0.facts }, h.1)

pub kept_sound : (fails : Bool) (runs : List ProvisionerRun) → AllByRecursion IsSoundRun runs → AllByRecursion IsSoundRun (kept_runs fails runs)
kept_sound fails runs h = of_tests (nat_le (length runs) max_provisioners) fails
  where
    of_tests : (few fails : Bool) → AllByRecursion IsSoundRun (cond few runs (cond fails (take (max_provisioners - 1) runs ++ drop (length runs - 1) runs) (take max_provisioners runs)))
    of_tests true fails = h
    of_tests false true =
        joined IsSoundRun (take (max_provisioners - 1) runs) (drop (length runs - 1) runs) (taken IsSoundRun (max_provisioners - 1) runs h) (dropped IsSoundRun (length runs - 1) runs h)
    of_tests false false = taken IsSoundRun max_provisioners runs h

-- ---- as a script states them

abbrev IsSoundText : TimedText → Type 0
IsSoundText timed = IsUtf8 timed.text

output_sound : (s : Stated) → IsSoundStated s → IfSome (output_of s) IsUtf8
output_sound (stated.Progress seconds) h = tt
output_sound (stated.ProvisionerBegan name) h = tt
output_sound (stated.Wrote output) h = h
output_sound stated.ProvisionerEnded h = tt
output_sound stated.ProvisionerFailed h = tt

outputs_sound : (run : ProvisionerRun) → IsSoundRun run → AllByRecursion IsSoundText (outputs_of_run run)
outputs_sound run h =
    given_ones IsSoundTimed IsSoundText (timed_output run.begin (seconds_of_run run)) run.facts
    (λ fact one. mapped IsUtf8 IsSoundText _ (output_of fact.stated) (λ text utf8. utf8) (output_sound fact.stated one)) h.facts

marked_sound : (name : List ℕ) → IsUtf8 name → IsFilled (name_or_mark name)
marked_sound [] h = record { utf8 = IsUtf8-are_ascii (63 ∷ []) refl; filled = λ e. cc }
marked_sound (byte ∷ bytes) h = record { utf8 = h; filled = λ e. cc }

pub unknown_sound : IsWritableDiag depth_recorded unknown_error
unknown_sound = record { summary = IsUtf8-are_ascii (codes "failed") refl; detail = IsUtf8-nil; range = tt; snippet = tt }

abbrev IsSoundError : Option Diag → Type 0
IsSoundError failure = IfSome failure (IsWritableDiag depth_recorded)

either_error : (b : Bool) (x y : Option Diag) → IsSoundError x → IsSoundError y → IsSoundError (cond b x y)
either_error true x y h k = h
either_error false x y h k = k

error_sound : (failure : Option Diag) (run : ProvisionerRun) → IsSoundError failure → IsSoundError (error_of_run failure run)
error_sound None run h = either_error (went_on run) (Some unknown_error) None unknown_sound tt
error_sound (Some diag) run h = h

pub provisioners_sound : (failure : Option Diag) (runs : List ProvisionerRun) → IsSoundError failure → AllByRecursion IsSoundRun runs → AllByRecursion IsSoundProvisioner (provisioners_of failure runs)
provisioners_sound failure [] one h = tt
provisioners_sound failure (run ∷ runs) one h =
    (one_sound (cond (length runs == 0) failure None) (either_error (length runs == 0) failure None one tt), provisioners_sound failure runs one h.1)
  where
    one_sound : (own : Option Diag) → IsSoundError own → IsSoundProvisioner (provisioner_of own run)
    one_sound own sound =
        record { name = marked_sound run.name h.0.name; output = taken IsSoundText max_outputs (outputs_of_run run) (outputs_sound run h.0); failed = error_sound own run sound }
