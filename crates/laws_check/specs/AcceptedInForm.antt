-- The verdict on a stream in Terraform's form, and what its inputs have to be.
use Rattle.std.specs.Prelude.{◌≡◌, ℕ, Bool, List, [], length, Ok}
use Rattle.stream_lines.specs.Cut.{cut_lines}
use Rattle.stream_check.specs.declared.rules.fault.Fault.{Fault}
use Rattle.stream_check.specs.declared.rules.fault.Fault.TheVariants.{Planned}
use Rattle.stream_check.specs.Judged.{judged}
use Rattle.stream_check.specs.Lines.{end_of, verdict_of}
use Rattle.stream_check.specs.Message.{Message}
use Rattle.apply_model.specs.Plan.SavedPlan.{SavedPlan}
use Rattle.apply_model.specs.Script.OutcomeMap.{OutcomeMap}
use Rattle.apply_writer.specs.Stream.Terraform.{StreamExtras}
use Rattle.apply_events.specs.declared.event.Event.{Event}
use Rattle.apply_events.specs.Laws.{IsWithinLimits}
use Rattle.apply_text.specs.declared.operation.Operation.{Operation}
use Rattle.apply_run.specs.Bytes.{Inputs}
use Rattle.apply_text_terraform.specs.declared.form.Form.TheVariants.{Terraform}
use Rattle.apply_run.specs.FromBytes.{work_for}
use Rattle.apply_run.specs.Read.{StatedInputs, applied_plan, applied_script, extras_of}
use Rattle.laws_check.specs.Applied.{HasShortLines}
use Rattle.laws_check.specs.Passing.{plain, with_all}
use Rattle.laws_check.specs.Plans.{ChangesAreWhole, DeletesDeposed, IsOrdinary, ProvisionsCreates, WarnsOfReads}
use Rattle.laws_check.specs.ReadBackInForm.{stream_read_back_in_form, whole_in_form}
use Rattle.laws_check.specs.Unstarted.{FindsUnstarted, IsAnswered, IsJudged}

-- What was read is within the limits, as it is applied. Each change does one thing to its object or
-- replaces the object, and no object is changed twice. Only steps that may have provisioners have
-- some, and only reads only warn.
pub record MayBeApplied (given : Inputs) (stated : StatedInputs) : Type 0 where
  pub limits : IsWithinLimits (work_for Terraform given stated)
  pub whole : ChangesAreWhole (applied_plan stated)
  pub ordinary : DeletesDeposed (applied_plan stated) → IsOrdinary (applied_plan stated)
  pub provisions : ProvisionsCreates (applied_plan stated) (applied_script stated)
  pub warnings : WarnsOfReads (applied_plan stated) (applied_script stated)

-- The messages of the stream are accepted up to its end. The checker finds the creates that never
-- start, and answers so.
pub record IsTakenInForm (plans : Bool) (plan : SavedPlan) (script : OutcomeMap) (extras : StreamExtras) (operation : Operation) (events : List Event) : Type 0 where
  -- the messages, the latest first
  pub messages : List Message
  pub accepted : with_all [] (stream_read_back_in_form plan script extras operation events) ≡ Ok messages
  pub finds : FindsUnstarted plan events messages
  pub answer : IsAnswered plan events (whole_in_form plan script extras operation events) Fault Planned (end_of (plain plans) messages)
  pub as_many : length messages ≡ length (stream_read_back_in_form plan script extras operation events)

-- If no line is too long, the bytes are a whole stream of these events, or creates never start. They
-- have a line for each message.
pub record AreAcceptedInForm (plans : Bool) (stated : StatedInputs) (operation : Operation) (events : List Event) (bytes : List ℕ) : Type 0 where
  pub verdict : HasShortLines bytes
      → IsJudged (applied_plan stated) events (whole_in_form (applied_plan stated) (applied_script stated) (extras_of stated) operation events)
      (verdict_of (plain plans) (cut_lines bytes))
  pub finds : HasShortLines bytes → FindsUnstarted (applied_plan stated) events (judged (plain plans) (cut_lines bytes))
  pub as_many : length (cut_lines bytes) ≡ length (stream_read_back_in_form (applied_plan stated) (applied_script stated) (extras_of stated) operation events)
