use Rattle.std.proofs.Common.{◌≡◌, ◌++◌, List, length}
use Rattle.apply_events.specs.declared.event.Event.{Event}
use Rattle.apply_events.specs.Lanes.ToCome.{to_come, emitted_count, work_of}
use Rattle.apply_writer.specs.Stream.Counting.{CountsFit}
use Rattle.apply_writer.specs.Stream.WriterState.{HasAccepted, writer_state}
use Rattle.apply_run.proofs.lanes.write_all_events.Given as goal

-- exactly the events that the lanes gave were accepted
abbrev pub invariant-loop-event : goal.invariant-loop-event
invariant-loop-event g l = record {
  work : work_of l.lanes ≡ work_of l.fn.lanes;
  form : g.F.FormLines.form l.stream.lines ≡ g.F.FormLines.form l.fn.stream.lines;
  count : l.stream.taken ≡ emitted_count l.lanes;
  counts_fit : CountsFit (g.F.FormLines.form l.stream.lines).plan (writer_state g.S.Sink.bytes g.S.Sink.failed l.stream);
  accepted : (events : List Event) × (events ++ to_come l.lanes ≡ to_come l.fn.lanes)
      × HasAccepted (g.F.FormLines.form l.fn.stream.lines) (g.S.Sink.bytes l.fn.stream.output.sink) (g.S.Sink.failed l.fn.stream.output.sink) events
      (writer_state g.S.Sink.bytes g.S.Sink.failed l.stream);
}

abbrev pub decreases-loop-event : goal.decreases-loop-event
decreases-loop-event g l = length (to_come l.lanes)
