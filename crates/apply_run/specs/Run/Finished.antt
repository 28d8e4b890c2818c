-- What is known after the threads of a run have ended.
use Rattle.std.specs.Prelude.{◌≡◌, ℕ, List, Option, All, length, true}
use Rattle.apply_events.specs.declared.event.Event.{Event}
use Rattle.apply_events.specs.Step.{Work}
use Rattle.apply_bus.specs.Bus.{BusName}
use Rattle.apply_bus.specs.Claims.{ClaimsName}
use Rattle.apply_bus.specs.Items.{events}
use Rattle.apply_run.specs.Applied.{IsApplied, IsAppliedInPart}
use Rattle.apply_run.specs.declared.run.JoinedRun.{JoinedRun}
use Rattle.apply_run.specs.declared.run.FinishedRun.{FinishedRun}
use Rattle.apply_writer.specs.declared.stream.StreamWriter.{StreamWriter}
use Rattle.apply_events.specs.Fits.{IsOfPlan}
use Rattle.apply_writer.specs.Stream.Counting.{CountsFit}
use Rattle.apply_writer.specs.Stream.Form.{StreamForm}
use Rattle.apply_writer.specs.Stream.WriterState.{IsSameStream, HasAcceptedSince, writer_state}
use Rattle.apply_run.specs.Run.Threads.{EachAt}
use Rattle.apply_run.specs.Worker.Stopped.{IsStoppedWorker}

-- each worker has done its part of the work; the events that were taken were accepted, if all are
-- of the plan
pub record IsJoinedRun {S F : Type 0} (bytes : S → Option (List ℕ)) (failed : S → ℕ) (form : F → StreamForm) (work : Work)
    (claims : ClaimsName) (bus : BusName) (stream : StreamWriter S F) (joined : JoinedRun S F) : Type 0 where
  pub bus_is : joined.taken.bus ≡ bus
  pub workers : joined.taken.workers ≡ claims.workers
  pub count : length joined.stopped.items ≡ claims.workers
  pub stopped : EachAt (IsStoppedWorker work claims bus) joined.stopped.items
  pub same : IsSameStream form stream joined.stream
  pub counts_fit : CountsFit (form joined.stream.lines).plan (writer_state bytes failed joined.stream)
  pub accepted : All (IsOfPlan (form stream.lines).plan) (events joined.taken.taken)
      → HasAcceptedSince bytes failed form stream (events joined.taken.taken) joined.stream

-- the events of the workers were accepted: all of them, or a prefix for each worker
pub record IsFinishedRun {S F : Type 0} (bytes : S → Option (List ℕ)) (failed : S → ℕ) (form : F → StreamForm) (work : Work)
    (workers : ℕ) (stream : StreamWriter S F) (finished : FinishedRun S F) : Type 0 where
  pub lists : List (List ℕ)
  pub events : List Event
  pub part : IsAppliedInPart work workers lists events
  pub whole : finished.whole ≡ true → IsApplied work workers lists events
  pub same : IsSameStream form stream finished.stream
  pub counts_fit : CountsFit (form finished.stream.lines).plan (writer_state bytes failed finished.stream)
  pub accepted : HasAcceptedSince bytes failed form stream events finished.stream
