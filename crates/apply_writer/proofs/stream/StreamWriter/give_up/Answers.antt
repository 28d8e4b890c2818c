use Rattle.apply_writer.specs.Stream.Outlet.{outlet_of}
use Rattle.apply_writer.specs.Stream.WriterState.{writer_state}
use Rattle.apply_writer.proofs.Streams.Ending.{cut_off}
use Rattle.apply_writer.proofs.stream.StreamWriter.give_up.Goals as goal

pub returns-clause-part : goal.returns-clause-part
returns-clause-part g c before failures events accepted =
    let s = c.args.self in
    rw (c.report-report.ensures, c.into_sink.ensures)
    (cut_off (g.F.FormLines.form s.lines) before failures events (writer_state g.S.Sink.bytes g.S.Sink.failed s) (outlet_of g.S.Sink.bytes g.S.Sink.failed s.output) _ accepted accepted.written.lines)
