use Rattle.std.proofs.Common.{◌≡◌, ◌<◌, ◌≤◌, ◌-◌, ◌*◌, ◌^◌, take}
use Rattle.std.specs.List.{concat}
use Rattle.apply_writer.specs.declared.stream.output.WriteState.TheVariants.{Open}
use Rattle.apply_writer.specs.Stream.Outlet.{HasWritten, outlet_of}
use Rattle.apply_writer.proofs.stream.StreamWriter.write_head.Given as goal

-- the pieces so far were written
abbrev pub invariant-loop-place : goal.invariant-loop-place
invariant-loop-place g l = record {
  form : g.F.FormLines.form l.self.lines ≡ g.F.FormLines.form l.fn.self.lines;
  head_chunks : g.F.FormLines.head_chunks l.self.lines ≡ g.F.FormLines.head_chunks l.fn.self.lines;
  counts : l.self.counts ≡ l.fn.self.counts;
  taken : l.self.taken ≡ l.fn.self.taken;
  latest : l.self.latest ≡ l.fn.self.latest;
  notes : l.self.notes ≡ l.fn.self.notes;
  few : l.self.output.written ≤ l.place * 2 ^ 64;
  may_fail : l.self.output.state ≡ Open → g.S.Sink.failed l.self.output.sink < 2 ^ 64 - 1;
  written : HasWritten (g.S.Sink.bytes l.fn.self.output.sink) (g.S.Sink.failed l.fn.self.output.sink)
      (concat (take l.place (g.F.FormLines.head_chunks l.fn.self.lines))) (outlet_of g.S.Sink.bytes g.S.Sink.failed l.self.output);
}
