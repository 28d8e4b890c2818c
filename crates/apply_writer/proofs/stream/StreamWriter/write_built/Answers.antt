use Rattle.std.proofs.Common.{◌≡◌, ◌∙◌, ap, sym, subst}
use Rattle.std.specs.Prelude.{OnOk}
use Rattle.apply_writer.specs.Stream.Outlet.{Writes, failed_writes, outlet_of}
use Rattle.apply_writer.proofs.Streams.Writing.{refused_for_memory, stopped_for_memory}
use Rattle.apply_writer.proofs.stream.StreamWriter.write_built.Goals as goal

pub returns-in-Ok-clause-written : goal.returns-in-Ok-clause-written
returns-in-Ok-clause-written g c line built =
    let s = c.args.self.now in
    let is : g.F.FormLines.built s.lines ≡ line = subst (λ r. OnOk r (g.F.FormLines.built s.lines ≡ line)) c.in-Ok.is built in
    subst (Writes (outlet_of g.S.Sink.bytes g.S.Sink.failed s.output) (outlet_of g.S.Sink.bytes g.S.Sink.failed c.write.new.self)) (c.as_bytes.ensures ∙ is) c.write.ensures.written

pub returns-in-Ok-clause-memory : goal.returns-in-Ok-clause-memory
returns-in-Ok-clause-memory g c ends =
    let same = c.write.ensures.memory ends in
    record {
      none_failed = ap failed_writes (sym (ap (λ output. output.state) same) ∙ ends);
      bytes = ap (λ output. g.S.Sink.bytes output.sink) same;
      failures = ap (λ output. g.S.Sink.failed output.sink) same;
      written = ap (λ output. output.written) same;
    }

pub returns-in-Err-clause-written : goal.returns-in-Err-clause-written
returns-in-Err-clause-written g c line _ = c.stop_for_memory.ensures.written line

pub returns-in-Err-clause-open : goal.returns-in-Err-clause-open
returns-in-Err-clause-open g c goes = absurd (stopped_for_memory c.args.self.now.output.state (sym c.stop_for_memory.ensures.state ∙ goes))

pub returns-in-Err-clause-memory : goal.returns-in-Err-clause-memory
returns-in-Err-clause-memory g c =
    let same = c.stop_for_memory.ensures.same in
    refused_for_memory (outlet_of g.S.Sink.bytes g.S.Sink.failed c.args.self.now.output) (outlet_of g.S.Sink.bytes g.S.Sink.failed c.stop_for_memory.new.self)
    c.stop_for_memory.ensures.state (ap g.S.Sink.bytes same.0) (ap g.S.Sink.failed same.0) same.1
