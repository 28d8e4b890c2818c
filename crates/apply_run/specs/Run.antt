-- How a run ends: its events, and the bytes in its sink.
pub mod Endpoints
pub mod Finished
pub mod NotBegun
pub mod Reconciled
pub mod RunName
pub mod Threads
use Rattle.std.specs.Prelude.{◌≡◌, ℕ, ◌+◌, ◌≤◌, ◌⊎◌, List, Option}
use Rattle.apply_events.specs.declared.event.Event.{Event}
use Rattle.apply_events.specs.Step.{Work}
use Rattle.apply_text.specs.Lines.{stream_of}
use Rattle.apply_text.specs.Order.{as_written, hook_messages_of}
use Rattle.apply_run.specs.declared.options.Options.{Options}
use Rattle.apply_run.specs.Schedule.{Schedule, ByWorkers, IsPartOf, IsRunOf, StartsThreads}
use Rattle.apply_writer.specs.declared.report.Report.{Report}
use Rattle.apply_writer.specs.declared.why.Why.{Why}
use Rattle.apply_writer.specs.declared.why.Why.TheVariants.{Bus, Workers, Memory, Write}
use Rattle.apply_writer.specs.Stream.Ended.{IsCutOff, IsWhole}
use Rattle.apply_writer.specs.Stream.Form.{StreamForm, lines_in, plain_form, stream_in}

-- a sink as contracts see it: its bytes, if it reveals them, and the number of failed writes
pub record SinkState : Type 0 where
  pub bytes : Option (List ℕ)
  pub failed : ℕ

-- the state of a sink, from what it reveals
abbrev pub sink_state : {S : Type 0} → (bytes : S → Option (List ℕ)) → (failed : S → ℕ) → S → SinkState
sink_state bytes failed sink = record { bytes = bytes sink; failed = failed sink }

-- the stream of events that were taken in this order: hook messages, then diagnostics, and the
-- summary
abbrev pub stream_for : Work → Options → List Event → List ℕ
stream_for work options events = stream_of work.plan work.script options.start options.operation events

-- ---- over any events

-- the whole stream of such events was written in this form
pub record HasStreamedOf (IsRun : List Event → Type 0) (form : StreamForm) (report : Report) (before after : SinkState) : Type 0 where
  pub events : List Event
  pub run : IsRun events
  pub whole : IsWhole form.plan events (stream_in form events) report
      before.bytes after.bytes before.failed after.failed

-- such events were counted; a prefix of these bytes was written, and `failed` writes have failed
pub record IsCutOffOf (IsRun : List Event → Type 0) (form : StreamForm) (bytes_of : List Event → List ℕ) (failed : ℕ)
    (report : Report) (before after : SinkState) : Type 0 where
  pub events : List Event
  pub run : IsRun events
  pub part : IsCutOff form.plan events (bytes_of events) report before.bytes after.bytes failed after.failed

-- such events were counted; a prefix of the lines of their hook messages was written, and neither
-- diagnostics nor tail, with or without a failed write
pub record IsLostOf (IsPart : List Event → Type 0) (form : StreamForm) (report : Report) (before after : SinkState) : Type 0 where
  pub failed : ℕ
  pub few : failed ≤ 1
  pub cut_off : IsCutOffOf IsPart form (λ events. lines_in form (hook_messages_of events)) (before.failed + failed)
      report before after

-- no event was taken, and the sink is unchanged
pub record DidNothing (report : Report) (before after : SinkState) : Type 0 where
  pub report_is : report ≡ record {
    counts = record { added = 0; changed = 0; removed = 0; failed = 0; halted = 0 };
    taken = 0;
    written = 0;
  }
  pub same : after ≡ before

-- ---- with a schedule

-- all events of the work were taken, and their whole stream was written in this form
abbrev pub HasStreamedBy : Schedule → StreamForm → Work → Report → (before after : SinkState) → Type 0
HasStreamedBy schedule form work report before after = HasStreamedOf (IsRunOf schedule work) form report before after

-- what holds after an error of each cause: a write failed; a thread was refused; memory was refused
-- before any event, for a line, or to store a diagnostic; or an event was lost between threads
abbrev pub HasFailedBy : Why → Schedule → StreamForm → Work → Report → (before after : SinkState) → Type 0
HasFailedBy Write schedule form work report before after =
    IsCutOffOf (IsRunOf schedule work) form (stream_in form) (before.failed + 1) report before after
HasFailedBy Workers schedule form work report before after = DidNothing report before after × StartsThreads schedule
HasFailedBy Memory schedule form work report before after =
    DidNothing report before after
    ⊎ IsCutOffOf (IsRunOf schedule work) form (λ events. lines_in form (as_written events)) before.failed report before after
HasFailedBy Bus schedule form work report before after = IsLostOf (IsPartOf schedule work) form report before after

-- ---- with workers, in the default form

abbrev pub by_workers : Options → Schedule
by_workers options = ByWorkers options.workers options.capacity

-- the default form of the stream of this work, with the start and the operation of the options
abbrev pub plain_for : Work → Options → StreamForm
plain_for work options = plain_form work.plan work.script options.start options.operation

abbrev pub HasStreamed : Work → Options → Report → (before after : SinkState) → Type 0
HasStreamed work options report before after =
    HasStreamedBy (by_workers options) (plain_for work options) work report before after

abbrev pub HasFailed : Why → Work → Options → Report → (before after : SinkState) → Type 0
HasFailed why work options report before after =
    HasFailedBy why (by_workers options) (plain_for work options) work report before after
