use Rattle.std.proofs.Common.{refl}
use Rattle.apply_text.specs.Order.{as_written, hook_messages_of}
use Rattle.apply_writer.specs.Stream.Form.{lines_in}
use Rattle.apply_writer.specs.Stream.Outlet.{outlet_of}
use Rattle.apply_writer.specs.Stream.WriterState.{writer_state}
use Rattle.apply_writer.proofs.Streams.Ending.{stopped_lines, stopped_stream, with_notes, with_tail, without_tail}
use Rattle.apply_writer.proofs.stream.StreamWriter.write_rest.Goals as goal

pub returns-in_default : goal.returns-in_default
returns-in_default g c =
    let s = c.args.self.now in
    let writer = writer_state g.S.Sink.bytes g.S.Sink.failed s in
    record {
      written = λ before failures events accepted. stopped_stream (g.F.FormLines.form s.lines) before failures events writer c.in_default.not-Open accepted;
      memory = λ _ before failures events accepted. stopped_lines (g.F.FormLines.form s.lines) before failures events writer c.in_default.not-Open accepted;
      accepted = (refl, refl);
    }

pub returns-in-Open-clause-written : goal.returns-in-Open-clause-written
returns-in-Open-clause-written g c before failures events accepted =
    let s = c.args.self.now in let n = c.write_notes.ensures in
    let old = writer_state g.S.Sink.bytes g.S.Sink.failed s in
    let mid = writer_state g.S.Sink.bytes g.S.Sink.failed c.write_notes.new.self in
    let new = outlet_of g.S.Sink.bytes g.S.Sink.failed c.write_tail.new.self.output in
    let lines = with_notes (g.F.FormLines.form s.lines) before failures events old mid c.in-Open.is accepted (n.written before failures (hook_messages_of events)) in
    let writes = rw n.same at c.write_tail.ensures.written in
    with_tail (g.F.FormLines.form s.lines) before failures events old mid new accepted lines n.accepted.0 writes

pub returns-in-Open-clause-memory : goal.returns-in-Open-clause-memory
returns-in-Open-clause-memory g c ends before failures events accepted =
    let s = c.args.self.now in let n = c.write_notes.ensures in
    let old = writer_state g.S.Sink.bytes g.S.Sink.failed s in
    let mid = writer_state g.S.Sink.bytes g.S.Sink.failed c.write_notes.new.self in
    let new = outlet_of g.S.Sink.bytes g.S.Sink.failed c.write_tail.new.self.output in
    let lines = with_notes (g.F.FormLines.form s.lines) before failures events old mid c.in-Open.is accepted (n.written before failures (hook_messages_of events)) in
    without_tail before failures (lines_in (g.F.FormLines.form s.lines) (as_written events)) mid.outlet new ends (c.write_tail.ensures.memory ends) lines.lines
