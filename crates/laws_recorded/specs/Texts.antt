-- What a stream gives a script.
use Rattle.std.specs.Prelude.{ℕ, IfSome, IsUtf8, Option}
use Rattle.std.specs.List.{AllByRecursion}
use Rattle.apply_model.specs.declared.script.ending.Ending.{Ending}
use Rattle.apply_model.specs.declared.script.ending.Ending.TheVariants.{Done, Failed, Warned}
use Rattle.apply_model.specs.declared.script.outcome.Outcome.{Outcome}
use Rattle.apply_model.specs.declared.script.provisioner.Provisioner.{Provisioner}
use Rattle.apply_model.specs.declared.script.timed_text.TimedText.{TimedText}
use Rattle.stream_record_outcomes.specs.declared.recorded_step.RecordedStep.{RecordedStep}
use Rattle.laws_record.specs.Writable.{IsFilled, IsWritableDiag, IsWritableOutcome}

-- How deep a range or a snippet of a message nests at most.
abbrev pub depth_recorded : ℕ
depth_recorded = 119

abbrev pub HasSoundEnding : Ending → Type 0
HasSoundEnding (Done id warning) = IfSome id IsFilled × IfSome warning (IsWritableDiag depth_recorded)
HasSoundEnding (Failed diag) = IsWritableDiag depth_recorded diag
HasSoundEnding (Warned diag) = IsWritableDiag depth_recorded diag

pub record IsSoundProvisioner (provisioner : Provisioner) : Type 0 where
  pub name : IsFilled provisioner.name
  pub output : AllByRecursion (λ (timed : TimedText). IsUtf8 timed.text) provisioner.output
  pub failed : IfSome provisioner.failed (IsWritableDiag depth_recorded)

-- Each text of the outcome is UTF-8, no id and no name of a provisioner is empty, and each range and
-- snippet is a JSON object.
pub record HasSoundTexts (outcome : Outcome) : Type 0 where
  pub ending : HasSoundEnding outcome.result
  pub provisioners : AllByRecursion IsSoundProvisioner outcome.provisioners

-- The step did not begin, or its outcome has sound texts.
abbrev pub IsSoundRecording : Option RecordedStep → Type 0
IsSoundRecording found = IfSome found (λ step. HasSoundTexts step.outcome)

-- The step did not begin, or its outcome may be written.
abbrev pub IsWritableRecording : Option RecordedStep → Type 0
IsWritableRecording found = IfSome found (λ step. IsWritableOutcome step.outcome)
