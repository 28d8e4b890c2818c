-- How far a step is, by what is known of it.
use Rattle.std.proofs.Common.{◌≡◌, true, Option, Some, None, refl}
use Rattle.std.specs.Prelude.{is_none}
use Rattle.apply_events.specs.declared.what.What.{What}
use Rattle.apply_events.specs.declared.what.What.TheVariants.{Start, Progress, Complete, Errored, ErrorNote, WarnNote, Halted, ProvisionStart, ProvisionOutput, ProvisionComplete, ProvisionErrored}
use Rattle.stream_record_steps.specs.declared.begun_step.BegunStep.{BegunStep}
use Rattle.stream_record_steps.specs.declared.begun_step.EndResult.{EndResult}
use Rattle.stream_record_steps.specs.declared.begun_step.EndResult.TheVariants as end_result
use Rattle.stream_record_steps.specs.declared.begun_step.StepEnd.{StepEnd}
use Rattle.laws_begun.specs.Followed.{is_completion, is_fact}

pub data Phase : Type 0 where
  NotBegun UnderWay HasCompleted HasFailed : Phase

abbrev pub phase_ended : EndResult → Phase
phase_ended (end_result.Completed id_key id) = HasCompleted
phase_ended end_result.Failed = HasFailed

abbrev pub phase_of_end : Option StepEnd → Phase
phase_of_end None = UnderWay
phase_of_end (Some end) = phase_ended end.result

abbrev pub phase_of : Option BegunStep → Phase
phase_of None = NotBegun
phase_of (Some step) = phase_of_end step.end

abbrev pub once_begun : Phase → Phase → Phase
once_begun NotBegun later = NotBegun
once_begun UnderWay later = later
once_begun HasCompleted later = later
once_begun HasFailed later = later

-- the phase after an event
abbrev pub phase_after : Phase → What → Phase
phase_after phase Start = UnderWay
phase_after phase (Progress seconds) = phase
phase_after phase (Complete seconds) = once_begun phase HasCompleted
phase_after phase (Errored seconds) = once_begun phase HasFailed
phase_after phase ErrorNote = phase
phase_after phase WarnNote = phase
phase_after phase (Halted at hook) = phase
phase_after phase (ProvisionStart i) = phase
phase_after phase (ProvisionOutput i line) = phase
phase_after phase (ProvisionComplete i) = phase
phase_after phase (ProvisionErrored i) = phase

pub fact_keeps : (phase : Phase) (what : What) → is_fact what ≡ true → phase_after phase what ≡ phase
fact_keeps phase (Progress seconds) is = refl
fact_keeps phase (ProvisionStart i) is = refl
fact_keeps phase (ProvisionOutput i line) is = refl
fact_keeps phase (ProvisionComplete i) is = refl
fact_keeps phase (ProvisionErrored i) is = refl
fact_keeps phase _ is = absurd cc

pub after_completion : (what : What) → is_completion what ≡ true → phase_after UnderWay what ≡ HasCompleted
after_completion (Complete seconds) is = refl
after_completion _ is = absurd cc

-- ---- what a phase says

pub not_begun : (known : Option BegunStep) → phase_of known ≡ NotBegun → known ≡ None
not_begun None is = refl
not_begun (Some step) is = absurd (ends step.end is)
  where
    results : (result : EndResult) → phase_ended result ≡ NotBegun → ⊥
    results (end_result.Completed id_key id) is = cc
    results end_result.Failed is = cc

    ends : (end : Option StepEnd) → phase_of_end end ≡ NotBegun → ⊥
    ends None is = cc
    ends (Some end) is = results end.result is

pub under_way : (known : Option BegunStep) → phase_of known ≡ UnderWay → (step : BegunStep) × (known ≡ Some step) × (is_none step.end ≡ true)
under_way None is = absurd cc
under_way (Some step) is = (step, refl, ends step.end is)
  where
    results : (result : EndResult) → phase_ended result ≡ UnderWay → ⊥
    results (end_result.Completed id_key id) is = cc
    results end_result.Failed is = cc

    ends : (end : Option StepEnd) → phase_of_end end ≡ UnderWay → is_none end ≡ true
    ends None is = refl
    ends (Some end) is = absurd (results end.result is)

pub is_under_way : (step : BegunStep) → is_none step.end ≡ true → phase_of (Some step) ≡ UnderWay
is_under_way step is = ends step.end is
  where
    ends : (end : Option StepEnd) → is_none end ≡ true → phase_of_end end ≡ UnderWay
    ends None is = refl
    ends (Some end) is = absurd cc
