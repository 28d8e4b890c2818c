-- How the main command ends.
use Rattle.std.specs.Prelude.{◌≡◌, ◌<◌, ◌+◌, ◌↔◌, ◌⊎◌, ℕ, List, Option, None, Some, IfSome, length, take, ⊤}
use Rattle.std.specs.List.{range_with_len}
use Rattle.std.specs.Io.KnownBytes.{Appends}
use mathlib.Core.List.{IsPrefix}
use Rattle.apply_plan.specs.Bytes.{max_bytes}
use Rattle.apply_events.specs.declared.event.Event.{Event}
use Rattle.apply_events.specs.Step.{Work}
use Rattle.apply_events.specs.WorkerEvents.{worker_events}
use Rattle.apply_text.specs.declared.operation.Operation.{Operation}
use Rattle.apply_text.specs.Order.{as_written, hook_messages_of}
use Rattle.apply_text_terraform.specs.declared.form.Form.{Form}
use Rattle.apply_text_terraform.specs.declared.form.Form.TheVariants.{Applystream}
use Rattle.apply_run.specs.declared.options.Options.{Options}
use Rattle.apply_run.specs.declared.refusal.Refusal.{Refusal}
use Rattle.apply_run.specs.Bytes.{Inputs}
use Rattle.apply_run.specs.FromBytes.{Reading, WasAppliedOf, WasRefusedOf, reading_of}
use Rattle.apply_run.specs.InForm.{WasApplied}
use Rattle.apply_run.specs.Run.{SinkState, by_workers}
use Rattle.apply_run.specs.Schedule.{ByWorkers, InLanes, IsPartOf, IsRunOf, Schedule}
use Rattle.apply_writer.specs.declared.report.Report.{Report}
use Rattle.apply_writer.specs.Sinks.{OverWriter}
use Rattle.apply_writer.specs.Stream.Form.{StreamForm, lines_in, stream_in}
use Rattle.apply_cli.specs.Status.{refusal_status_of, unfinished}

-- the output as the run sees it, from what the writer reveals
abbrev pub sink_state : {W : Type 0} → (contents : W → Option (List ℕ)) → OverWriter W → SinkState
sink_state contents output = record { bytes = contents output.writer; failed = output.failures }

-- ---- of each reading, with each schedule

-- one worker applies all changes in the plan's order, so its events are known
abbrev pub IsAlone : Schedule → Type 0
IsAlone (ByWorkers workers capacity) = workers ≡ 1
IsAlone (InLanes lanes) = ⊥

-- the inputs were applied, the whole stream was written after the bytes that the output had, and
-- the status is 1 if and only if the stream reports an error
pub record HasAppliedOf (schedule : Schedule) (reading : Reading) (given : Inputs) (start : ℕ) (operation : Operation)
    (before after : SinkState) (status : ℕ) : Type 0 where
  pub report : Report
  pub applied : WasAppliedOf schedule reading given start operation report before after
  pub alone : IsAlone schedule
      → applied.streamed.events ≡ worker_events (reading.work given applied.read) 0
      (range_with_len 0 (length (reading.work given applied.read).plan.changes))
  pub status_is : (status ≡ 1) ↔ reading.ReportsError applied.read report.counts

-- these bytes are a prefix of the stream of all events; they include the tail only if a write or a
-- flush has failed since. Or they are a prefix of the lines of the hook messages of a part of them
abbrev pub IsFrontBy : Schedule → StreamForm → Work → (before after : SinkState) → List Event → (part : List ℕ) → Type 0
IsFrontBy schedule form work before after events part =
    (IsRunOf schedule work events
    × (((before.failed < after.failed) × IsPrefix part (stream_in form events)) ⊎ IsPrefix part (lines_in form (as_written events))))
    ⊎ (IsPartOf schedule work events × IsPrefix part (lines_in form (hook_messages_of events)))

-- the inputs were applied, wholly or in part, and a prefix of the stream was written after the
-- bytes that the output had. A summary may stand in that prefix only if everything was applied and
-- a write or a flush has failed since; then it is the summary of everything. If memory was refused,
-- there is no summary. A refused thread is no such beginning: then the output is unchanged
pub record HasBegunOf (schedule : Schedule) (reading : Reading) (given : Inputs) (start : ℕ) (operation : Operation)
    (before after : SinkState) : Type 0 where
  pub read : reading.Read
  pub is_read : reading.IsRead given read
  pub events : List Event
  pub part : List ℕ
  pub front : IsFrontBy schedule (reading.form read start operation) (reading.work given read) before after events part
  pub appended : Appends before.bytes after.bytes part

-- the inputs were refused, with status 2: the plan, the script, what it states for the form or the
-- schedule, or the sizes
abbrev pub HasRefusedOf : Schedule → Reading → Inputs → (start : ℕ) → Operation → (before after : SinkState) → Type 0
HasRefusedOf schedule reading given start operation before after =
    (refusal : Refusal) × (refusal_status_of refusal ≡ 2) × WasRefusedOf schedule reading given start operation refusal before after

-- ---- of a saved plan, in each form

abbrev pub HasAppliedBy : Schedule → Form → Inputs → (start : ℕ) → Operation → (before after : SinkState) → (status : ℕ) → Type 0
HasAppliedBy schedule form given start operation before after status =
    HasAppliedOf schedule (reading_of form) given start operation before after status

abbrev pub HasBegunBy : Schedule → Form → Inputs → (start : ℕ) → Operation → (before after : SinkState) → Type 0
HasBegunBy schedule form given start operation before after = HasBegunOf schedule (reading_of form) given start operation before after

-- ---- with workers, in the default form

-- the inputs were applied, the whole stream was written after the bytes that the output had, and
-- the status is 1 if and only if a step failed or was halted. One worker applies all changes in the
-- plan's order, so its bytes are known
pub record HasApplied (given : Inputs) (options : Options) (before after : SinkState) (status : ℕ) : Type 0 where
  pub report : Report
  pub applied : WasApplied given options report before after
  pub alone : options.workers ≡ 1
      → applied.streamed.events ≡ worker_events
      (record { plan = applied.read.plan; script = applied.read.script; hooks = given.hooks }) 0
      (range_with_len 0 (length applied.read.plan.changes))
  pub status_is : (status ≡ 1) ↔ (0 < unfinished report.counts)

abbrev pub HasBegun : Inputs → Options → (before after : SinkState) → Type 0
HasBegun given options before after = HasBegunBy (by_workers options) Applystream given options.start options.operation before after

-- ---- of what is read

-- the fact holds of some bytes; they are those of the input, if the input reveals them
abbrev pub OfInput : (known : Option (List ℕ)) → (List ℕ → Type 0) → Type 0
OfInput known P = (bytes : List ℕ) × P bytes × IfSome known (λ all. all ≡ bytes)

-- these are all bytes of a file that was opened, if the file reveals them
abbrev pub IsWholeFile : {File : Type 0} → (remaining : File → Option (List ℕ)) → (bytes : List ℕ) → Type 0
IsWholeFile {File = File} remaining bytes = (file : File) × IfSome (remaining file) (λ all. all ≡ bytes)

-- these are the bytes of a file that was opened, up to one byte more than a script may have
abbrev pub IsFrontOfFile : {File : Type 0} → (remaining : File → Option (List ℕ)) → (bytes : List ℕ) → Type 0
IsFrontOfFile {File = File} remaining bytes =
    (file : File) × IfSome (remaining file) (λ all. bytes ≡ take (max_bytes + 1) all)

-- there are bytes if and only if there is a name, and then the fact holds of them
abbrev pub AreOfName : (IsOfFile : List ℕ → Type 0) → (name bytes : Option (List ℕ)) → Type 0
AreOfName IsOfFile None None = ⊤
AreOfName IsOfFile None (Some bytes) = ⊥
AreOfName IsOfFile (Some name) None = ⊥
AreOfName IsOfFile (Some name) (Some bytes) = IsOfFile bytes

-- the fact holds of some bytes; they are those of the input, if the input reveals them
abbrev pub OfFile : {File : Type 0} → (remaining : File → Option (List ℕ)) → (name : Option (List ℕ))
    → (Option (List ℕ) → Type 0) → Type 0
OfFile remaining name P = (bytes : Option (List ℕ)) × P bytes × AreOfName (IsWholeFile remaining) name bytes
