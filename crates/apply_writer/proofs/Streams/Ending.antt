-- How a stream ends.
use Rattle.std.proofs.Common.{◌≡◌, ◌≢◌, ℕ, ◌+◌, List, ◌++◌, length, Option, refl, sym, ap, ◌∙◌, subst, add-zero}
use Rattle.std.specs.Io.KnownBytes.{Appends}
use mathlib.Core.List.{IsPrefix}
use Rattle.apply_events.specs.declared.event.Event.{Event}
use Rattle.apply_events.specs.Totals.{totals_of}
use Rattle.apply_text.specs.Latest.{latest_of}
use Rattle.apply_text.specs.Order.{as_written, hook_messages_of, notes_of}
use Rattle.apply_writer.specs.declared.report.Report.{Report}
use Rattle.apply_writer.specs.declared.stream.output.WriteState.TheVariants.{Open, Failed, OutOfMemory}
use Rattle.apply_writer.specs.Stream.Ended.{IsCutOff, IsWhole}
use Rattle.apply_writer.specs.Stream.Form.{StreamForm, lines_in, stream_in}
use Rattle.apply_writer.specs.Stream.Outlet.{HasWritten, IsRefused, Outlet, Writes, failed_writes}
use Rattle.apply_writer.specs.Stream.WriterState.{HasLines, HasAccepted, WriterState}
use Rattle.apply_writer.proofs.Streams.Lines.{lines_prefix}
use Rattle.apply_writer.proofs.Prefixes.{prefix_more}

abbrev report_of : WriterState → Outlet → Report
report_of writer outlet = record { counts = writer.counts; taken = writer.taken; written = outlet.written }

-- what was written is cut off
pub cut_off : (form : StreamForm) (before : Option (List ℕ)) (failures : ℕ) (events : List Event) (writer : WriterState) (outlet : Outlet) (all : List ℕ)
    → HasAccepted form before failures events writer → HasWritten before failures all outlet
    → IsCutOff form.plan events all (report_of writer outlet) before outlet.bytes (failures + failed_writes outlet.state) outlet.failures
cut_off form before failures events writer outlet all accepted written = record {
  part = written.part;
  is_prefix = written.is_prefix;
  delivered = record { counts = accepted.counts; taken = accepted.taken; written = written.counted; appended = written.appended };
  failed = written.failed;
}

-- the stored diagnostics are those of the events: all lines were written
pub with_notes : (form : StreamForm) (before : Option (List ℕ)) (failures : ℕ) (events : List Event) (old mid : WriterState)
    → old.outlet.state ≡ Open → HasAccepted form before failures events old
    → (HasLines form before failures (hook_messages_of events) old → HasLines form before failures (hook_messages_of events ++ old.notes) mid)
    → HasLines form before failures (as_written events) mid
with_notes form before failures events old mid goes accepted writes =
    subst (λ notes. HasLines form before failures (hook_messages_of events ++ notes) mid) (accepted.notes goes) (writes accepted.written)

-- the tail was written after them
pub with_tail : (form : StreamForm) (before : Option (List ℕ)) (failures : ℕ) (events : List Event) (old mid : WriterState) (outlet : Outlet)
    → HasAccepted form before failures events old → HasLines form before failures (as_written events) mid → mid.counts ≡ old.counts
    → Writes mid.outlet outlet (form.tail mid.latest mid.counts)
    → HasWritten before failures (stream_in form events) outlet
with_tail form before failures events old mid outlet accepted lines counts writes =
    let written = as_written events in
    subst (λ text. HasWritten before failures (lines_in form written ++ text) outlet)
    (ap (λ latest. form.tail latest mid.counts) lines.latest ∙ ap (λ totals. form.tail (latest_of written (length written)) totals) (counts ∙ accepted.counts))
    (writes before failures (lines_in form written) lines.lines)

-- memory was refused for what comes last, or before
pub without_tail : (before : Option (List ℕ)) (failures : ℕ) (all : List ℕ) (mid outlet : Outlet) → outlet.state ≡ OutOfMemory
    → IsRefused mid outlet → HasWritten before failures all mid → HasWritten before failures all outlet
without_tail before failures all mid outlet ends refused was = record {
  part = was.part;
  is_prefix = was.is_prefix;
  whole = λ goes. let e : OutOfMemory ≡ Open = sym ends ∙ goes in absurd cc;
  appended = subst (λ after. Appends before after was.part) (sym refused.bytes) was.appended;
  counted = refused.written ∙ was.counted;
  failed = refused.failures ∙ was.failed ∙ ap (λ n. failures + n) (refused.none_failed ∙ sym (ap failed_writes ends));
}

-- the writing has stopped: nothing more is written
behind : (before : Option (List ℕ)) (failures : ℕ) (all more : List ℕ) (outlet : Outlet) → outlet.state ≢ Open → IsPrefix all more
    → HasWritten before failures all outlet → HasWritten before failures more outlet
behind before failures all more outlet ends longer was = record {
  part = was.part;
  is_prefix = prefix_more was.part all more was.is_prefix longer;
  whole = λ goes. absurd (ends goes);
  appended = was.appended;
  counted = was.counted;
  failed = was.failed;
}

pub stopped_lines : (form : StreamForm) (before : Option (List ℕ)) (failures : ℕ) (events : List Event) (writer : WriterState)
    → writer.outlet.state ≢ Open → HasAccepted form before failures events writer
    → HasWritten before failures (lines_in form (as_written events)) writer.outlet
stopped_lines form before failures events writer ends accepted =
    behind before failures (lines_in form (hook_messages_of events)) (lines_in form (as_written events)) writer.outlet ends
    (lines_prefix form (hook_messages_of events) (notes_of events)) accepted.written.lines

pub stopped_stream : (form : StreamForm) (before : Option (List ℕ)) (failures : ℕ) (events : List Event) (writer : WriterState)
    → writer.outlet.state ≢ Open → HasAccepted form before failures events writer
    → HasWritten before failures (stream_in form events) writer.outlet
stopped_stream form before failures events writer ends accepted =
    let all = lines_in form (as_written events) in
    let last = form.tail (latest_of (as_written events) (length (as_written events))) (totals_of form.plan events) in
    behind before failures all (all ++ last) writer.outlet ends (last, refl) (stopped_lines form before failures events writer ends accepted)

-- all of it was written
pub ended_whole : (form : StreamForm) (before : Option (List ℕ)) (failures : ℕ) (events : List Event) (writer : WriterState) (outlet : Outlet)
    → outlet.state ≡ Open → HasWritten before failures (stream_in form events) outlet
    → HasAccepted form before failures events writer
    → IsWhole form.plan events (stream_in form events) (report_of writer outlet) before outlet.bytes failures outlet.failures
ended_whole form before failures events writer outlet goes written accepted =
    let all = written.whole goes in
    record {
      delivered = record { counts = accepted.counts; taken = accepted.taken; written = written.counted ∙ ap length all; appended = subst (Appends before outlet.bytes) all written.appended };
      failed = written.failed ∙ ap (λ s. failures + failed_writes s) goes ∙ add-zero failures;
    }

-- a write has failed
pub ended_in_part : (form : StreamForm) (before : Option (List ℕ)) (failures : ℕ) (events : List Event) (writer : WriterState) (outlet : Outlet)
    → outlet.state ≡ Failed → HasWritten before failures (stream_in form events) outlet
    → HasAccepted form before failures events writer
    → IsCutOff form.plan events (stream_in form events) (report_of writer outlet) before outlet.bytes (failures + 1) outlet.failures
ended_in_part form before failures events writer outlet ends written accepted =
    subst (λ n. IsCutOff form.plan events (stream_in form events) (report_of writer outlet) before outlet.bytes (failures + n) outlet.failures) (ap failed_writes ends)
    (cut_off form before failures events writer outlet _ accepted written)

-- memory was refused
pub ended_in_lines : (form : StreamForm) (before : Option (List ℕ)) (failures : ℕ) (events : List Event) (writer : WriterState) (outlet : Outlet)
    → outlet.state ≡ OutOfMemory → HasWritten before failures (lines_in form (as_written events)) outlet
    → HasAccepted form before failures events writer
    → IsCutOff form.plan events (lines_in form (as_written events)) (report_of writer outlet) before outlet.bytes failures outlet.failures
ended_in_lines form before failures events writer outlet ends written accepted =
    subst (λ n. IsCutOff form.plan events (lines_in form (as_written events)) (report_of writer outlet) before outlet.bytes n outlet.failures)
    (ap (λ s. failures + failed_writes s) ends ∙ add-zero failures)
    (cut_off form before failures events writer outlet _ accepted written)
