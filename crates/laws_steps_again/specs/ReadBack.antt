-- What `record` knows of a stream of our own.
use Rattle.std.specs.Prelude.{◌≡◌, ℕ, ℤ, List, ◌++◌, Bool, Option}
use Rattle.apply_model.specs.declared.details.note.Note.{Note}
use Rattle.apply_events.specs.declared.event.Event.{Event}
use Rattle.apply_events.specs.Step.{Work}
use Rattle.apply_text.specs.Order.{hook_messages_of}
use Rattle.stream_record_outcomes.specs.declared.recorded_step.RecordedStep.{RecordedStep}
use Rattle.stream_record_steps.specs.Begun.{Begun, none_begun}
use Rattle.stream_record_steps.specs.Steps.{planned_steps}
use Rattle.laws_begun.specs.Followed.{AreWhole}
use Rattle.laws_begun.specs.Telling.{Telling, after_events}
use Rattle.laws_steps_again.specs.Again.{IsInForm, Look, notes_shown}
use Rattle.laws_reads.specs.Outcomes.{AreRecorded}
use Rattle.laws_steps_again.specs.Own.{IsOwn}

-- A form, and what it tells in a stream. `first` is the line of the first hook message, `start` the
-- second in which the run starts.
pub record Reading : Type 0 where
  pub telling : Telling
  pub start : ℤ
  pub first : ℕ
  pub look : Look
  pub is_default_form : Bool

-- `record` knows of the steps by the hook messages of a time line, and reads the diagnostics of the
-- steps and then some of no step. It recorded these outcomes, and these diagnostics are left.
pub record IsReadBack (work : Work) (n : ℕ) (events : List Event) (reading : Reading) (begun : Begun) (loose notes : List Note)
    (recorded : List (Option RecordedStep)) (left : List Note) : Type 0 where
  pub own : IsOwn work n events
  pub whole : AreWhole work.plan (hook_messages_of events)
  pub plan : reading.telling.plan ≡ work.plan
  pub script : reading.telling.script ≡ work.script
  pub begun_is : begun ≡ after_events reading.telling reading.start reading.first (hook_messages_of events) (none_begun (planned_steps work.plan.changes))
  pub form : IsInForm reading.look reading.is_default_form work
  pub notes_are : notes ≡ notes_shown reading.look work events ++ loose
  pub recorded_are : AreRecorded work.plan.changes begun notes reading.is_default_form recorded left
