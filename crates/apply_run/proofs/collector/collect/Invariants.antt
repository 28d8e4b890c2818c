use Rattle.std.proofs.Common.{◌≡◌, ◌≤◌, ◌+◌, ◌-◌, All, length}
use Rattle.apply_bus.specs.Items.{events, max_taken}
use Rattle.apply_writer.specs.Stream.Counting.{CountsFit}
use Rattle.apply_events.specs.Fits.{IsOfPlan}
use Rattle.apply_writer.specs.Stream.WriterState.{HasAccepted, writer_state}
use Rattle.apply_run.proofs.collector.collect.Given as goal

-- the events so far were accepted
abbrev pub invariant-loop-rx : goal.invariant-loop-rx
invariant-loop-rx g l = record {
  bus : l.rx.bus ≡ l.fn.rx.bus;
  workers : l.rx.workers ≡ l.fn.rx.workers;
  form : g.F.FormLines.form l.stream.lines ≡ g.F.FormLines.form l.fn.stream.lines;
  counts_fit : CountsFit (g.F.FormLines.form l.stream.lines).plan (writer_state g.S.Sink.bytes g.S.Sink.failed l.stream);
  few : l.stream.taken ≤ length l.rx.taken;
  accepted : All (IsOfPlan (g.F.FormLines.form l.fn.stream.lines).plan) (events l.rx.taken)
      → HasAccepted (g.F.FormLines.form l.fn.stream.lines) (g.S.Sink.bytes l.fn.stream.output.sink) (g.S.Sink.failed l.fn.stream.output.sink) (events l.rx.taken)
      (writer_state g.S.Sink.bytes g.S.Sink.failed l.stream);
  lost : l.lost_takes ≤ 1000;
}

-- an item more, or a lost take more
abbrev pub decreases-loop-rx : goal.decreases-loop-rx
decreases-loop-rx g l = (max_taken - length l.rx.taken) + (1000 - l.lost_takes)
