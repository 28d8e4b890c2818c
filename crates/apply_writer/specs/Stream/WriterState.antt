-- What a writer has accepted and written.
use Rattle.std.specs.Prelude.{◌≡◌, ℕ, List, length, Option}
use Rattle.apply_events.specs.declared.counts.Counts.{Counts}
use Rattle.apply_events.specs.declared.event.Event.{Event}
use Rattle.apply_events.specs.Totals.{totals_of}
use Rattle.apply_text.specs.Latest.{latest_of}
use Rattle.apply_text.specs.Order.{hook_messages_of, notes_of}
use Rattle.apply_writer.specs.declared.stream.StreamWriter.{StreamWriter}
use Rattle.apply_writer.specs.declared.stream.output.WriteState.TheVariants.{Open}
use Rattle.apply_writer.specs.Stream.Form.{StreamForm, lines_in}
use Rattle.apply_writer.specs.Stream.Outlet.{HasWritten, Outlet, outlet_of}

-- a writer as contracts see it: its output, the totals and the number of the accepted events, the
-- latest timestamp of a line, and the stored diagnostics
pub record WriterState : Type 0 where
  pub outlet : Outlet
  pub counts : Counts
  pub taken : ℕ
  pub latest : ℕ
  pub notes : List Event

-- the state of a writer, from what its sink reveals
abbrev pub writer_state : {S F : Type 0} → (bytes : S → Option (List ℕ)) → (failed : S → ℕ) → StreamWriter S F → WriterState
writer_state bytes failed stream = record {
  outlet = outlet_of bytes failed stream.output;
  counts = stream.counts;
  taken = stream.taken;
  latest = stream.latest;
  notes = stream.notes.items;
}

-- since the sink had these bytes and so many failures, the lines of the events were written in this
-- order, until the writing stopped
pub record HasLines (form : StreamForm) (before : Option (List ℕ)) (failures : ℕ)
    (written : List Event) (writer : WriterState) : Type 0 where
  pub lines : HasWritten before failures (lines_in form written) writer.outlet
  pub latest : writer.latest ≡ latest_of written (length written)

-- the events were accepted in this order: they were counted, the lines of their hook messages were
-- written, and their diagnostics are stored unless the writing has stopped
pub record HasAccepted (form : StreamForm) (before : Option (List ℕ)) (failures : ℕ)
    (events : List Event) (writer : WriterState) : Type 0 where
  pub written : HasLines form before failures (hook_messages_of events) writer
  pub counts : writer.counts ≡ totals_of form.plan events
  pub taken : writer.taken ≡ length events
  pub notes : writer.outlet.state ≡ Open → writer.notes ≡ notes_of events

-- both writers have the same plan and the same form
abbrev pub IsSameStream : {S F : Type 0} → (form : F → StreamForm) → (old new : StreamWriter S F) → Type 0
IsSameStream form old new = form new.lines ≡ form old.lines

-- between the two states of the writer, exactly these events were accepted
abbrev pub HasAcceptedSince : {S F : Type 0} → (bytes : S → Option (List ℕ)) → (failed : S → ℕ) → (form : F → StreamForm)
    → StreamWriter S F → List Event → StreamWriter S F → Type 0
HasAcceptedSince bytes failed form old events new =
    HasAccepted (form old.lines) (bytes old.output.sink) (failed old.output.sink) events (writer_state bytes failed new)
