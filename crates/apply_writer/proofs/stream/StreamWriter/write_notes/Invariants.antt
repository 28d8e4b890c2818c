use Rattle.std.proofs.Common.{◌≡◌, ◌<◌, ◌≤◌, ◌+◌, ◌-◌, ◌*◌, ◌^◌, ◌++◌, ℕ, List, Option, length, take}
use Rattle.apply_events.specs.declared.event.Event.{Event}
use Rattle.apply_events.specs.Fits.{latest_second}
use Rattle.apply_writer.specs.declared.stream.output.WriteState.TheVariants.{Open}
use Rattle.apply_writer.specs.Stream.Counting.{max_head_chunks}
use Rattle.apply_writer.specs.Stream.WriterState.{HasLines, IsSameStream, writer_state}
use Rattle.apply_writer.proofs.stream.StreamWriter.write_notes.Given as goal

-- the notes so far were written
abbrev pub invariant-loop-place : goal.invariant-loop-place
invariant-loop-place g l = record {
  same : IsSameStream g.F.FormLines.form l.fn.self l.self;
  notes : l.self.notes.items ≡ l.fn.self.notes.items;
  counts : l.self.counts ≡ l.fn.self.counts;
  taken : l.self.taken ≡ l.fn.self.taken;
  in_time : l.self.latest ≤ latest_second;
  few : l.self.output.written + length l.fn.self.notes.items * 2 ^ 64 ≤ (l.fn.self.taken + max_head_chunks + l.place) * 2 ^ 64;
  may_fail : l.self.output.state ≡ Open → g.S.Sink.failed l.self.output.sink < 2 ^ 64 - 1;
  written : (before : Option (List ℕ)) (failures : ℕ) (events : List Event)
      → HasLines (g.F.FormLines.form l.fn.self.lines) before failures events (writer_state g.S.Sink.bytes g.S.Sink.failed l.fn.self)
      → HasLines (g.F.FormLines.form l.fn.self.lines) before failures (events ++ take l.place l.fn.self.notes.items)
      (writer_state g.S.Sink.bytes g.S.Sink.failed l.self);
}
