use Rattle.std.proofs.Common.{ap, refl}
use Rattle.apply_writer.specs.Stream.Outlet.{failed_writes, outlet_of}
use Rattle.apply_writer.proofs.Streams.Writing.{writes_none}
use Rattle.apply_writer.proofs.stream.StreamWriter.write_tail.Goals as goal

pub returns-in-Open-clause-written : goal.returns-in-Open-clause-written
returns-in-Open-clause-written g c =
    let s = c.args.self.now in let form = g.F.FormLines.form s.lines in
    c.write_built.ensures.written (form.tail s.latest s.counts) c.build_tail-built.ensures.ok

pub returns-in-Open-clause-memory : goal.returns-in-Open-clause-memory
returns-in-Open-clause-memory g c = c.write_built.ensures.memory

pub returns-in-Open-clause-accepted : goal.returns-in-Open-clause-accepted
returns-in-Open-clause-accepted g c = let unchanged = c.write_built.ensures.accepted in (unchanged.0, unchanged.1)

pub returns-in_default : goal.returns-in_default
returns-in_default g c =
    let s = c.args.self.now in let form = g.F.FormLines.form s.lines in
    record {
      written = writes_none (outlet_of g.S.Sink.bytes g.S.Sink.failed s.output) (form.tail s.latest s.counts) c.in_default.not-Open;
      memory = λ ends. record { none_failed = ap failed_writes ends; bytes = refl; failures = refl; written = refl };
      accepted = (refl, refl);
    }
