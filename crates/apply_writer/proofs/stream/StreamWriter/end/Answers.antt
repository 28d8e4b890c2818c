use Rattle.std.proofs.Common.{refl, inl, inr}
use Rattle.apply_writer.specs.Stream.Outlet.{outlet_of}
use Rattle.apply_writer.specs.Stream.WriterState.{writer_state}
use Rattle.apply_writer.proofs.Streams.Ending.{ended_whole, ended_in_part, ended_in_lines}
use Rattle.apply_writer.proofs.stream.StreamWriter.end.Goals as goal
use Rattle.apply_writer.proofs.stream.StreamWriter.end.Goals.{in-Open, in-Failed, in-OutOfMemory}

pub returns-clause-ok : goal.returns-clause-ok
returns-clause-ok g c =
    let s = c.args.self in
    let e = c.write_rest.ensures in
    elim c.match-self.branch [
      | in-Open w ↦ rw (w.result-is, c.report-report.ensures, e.accepted.0, e.accepted.1, c.into_sink.ensures) (λ before failures events accepted.
          ended_whole (g.F.FormLines.form s.lines) before failures events (writer_state g.S.Sink.bytes g.S.Sink.failed s) (outlet_of g.S.Sink.bytes g.S.Sink.failed c.write_rest.new.self.output) w.in-Open.is (e.written before failures events accepted) accepted)
      | in-Failed w ↦ rw w.result-is tt
      | in-OutOfMemory w ↦ rw w.result-is tt
    ]

pub returns-clause-err : goal.returns-clause-err
returns-clause-err g c =
    let s = c.args.self in
    let e = c.write_rest.ensures in
    elim c.match-self.branch [
      | in-Open w ↦ rw w.result-is tt
      | in-Failed w ↦ rw (w.result-is, c.report-report.ensures, e.accepted.0, e.accepted.1, c.into_sink.ensures) (λ before failures events accepted. inl (
        refl,
        ended_in_part (g.F.FormLines.form s.lines) before failures events (writer_state g.S.Sink.bytes g.S.Sink.failed s) (outlet_of g.S.Sink.bytes g.S.Sink.failed c.write_rest.new.self.output) w.in-Failed.is (e.written before failures events accepted) accepted,
      ))
      | in-OutOfMemory w ↦ rw (w.result-is, c.report-report.ensures, e.accepted.0, e.accepted.1, c.into_sink.ensures) (λ before failures events accepted. inr (
        refl,
        ended_in_lines (g.F.FormLines.form s.lines) before failures events (writer_state g.S.Sink.bytes g.S.Sink.failed s) (outlet_of g.S.Sink.bytes g.S.Sink.failed c.write_rest.new.self.output) w.in-OutOfMemory.is (e.memory w.in-OutOfMemory.is before failures events accepted) accepted,
      ))
    ]
