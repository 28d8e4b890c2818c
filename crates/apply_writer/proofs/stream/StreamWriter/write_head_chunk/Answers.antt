use Rattle.std.proofs.Common.{refl}
use Rattle.std.specs.Prelude.{slice_index_or}
use Rattle.std.proofs.Common.{[]}
use Rattle.apply_writer.specs.Stream.Outlet.{outlet_of}
use Rattle.apply_writer.proofs.Streams.Writing.{writes_none}
use Rattle.apply_writer.proofs.stream.StreamWriter.write_head_chunk.Goals as goal

pub returns-in-Open-clause-written : goal.returns-in-Open-clause-written
returns-in-Open-clause-written g c =
    let s = c.args.self.now in
    c.write_built.ensures.written (slice_index_or (g.F.FormLines.head_chunks s.lines) c.args.place []) c.build_head_chunk-built.ensures.ok

pub returns-in_default-clause-written : goal.returns-in_default-clause-written
returns-in_default-clause-written g c =
    let s = c.args.self.now in
    writes_none (outlet_of g.S.Sink.bytes g.S.Sink.failed s.output) (slice_index_or (g.F.FormLines.head_chunks s.lines) c.args.place []) c.in_default.not-Open
