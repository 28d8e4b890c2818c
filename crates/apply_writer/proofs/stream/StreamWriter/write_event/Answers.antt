use Rattle.std.proofs.Common.{◌≡◌, ◌++◌, ◌∙◌, List, ℕ, ap, sym, subst, arith}
use Rattle.std.specs.Prelude.{max}
use Rattle.apply_writer.specs.Stream.Outlet.{Writes, outlet_of}
use Rattle.apply_writer.specs.Stream.WriterState.{writer_state}
use Rattle.apply_writer.proofs.Streams.WriterState.{lines_and_one}
use Rattle.apply_writer.proofs.Streams.Writing.{writes_none}
use Rattle.apply_writer.proofs.stream.StreamWriter.write_event.Goals as goal

pub returns-in-Open-clause-written : goal.returns-in-Open-clause-written
returns-in-Open-clause-written g c before failures events was =
    let s = c.args.self.now in
    let form = g.F.FormLines.form s.lines in
    let text : ℕ → List ℕ = λ latest. form.line latest c.args.event.now in
    let unchanged = c.write_built.ensures.accepted in
    let built = c.build_line-built.ensures.ok in
    let moment : c.write_built.new.self.latest ≡ c.max-self.result = unchanged.2 in
    let latest : c.max-self.result ≡ max s.latest c.args.event.now.at = omega arith in
    lines_and_one (g.F.FormLines.form s.lines) before failures events c.args.event.now (writer_state g.S.Sink.bytes g.S.Sink.failed s) (writer_state g.S.Sink.bytes g.S.Sink.failed c.write_built.new.self)
    (subst (λ m. Writes (outlet_of g.S.Sink.bytes g.S.Sink.failed s.output) (outlet_of g.S.Sink.bytes g.S.Sink.failed c.write_built.new.self.output) (text m)) (sym moment) (c.write_built.ensures.written (text c.max-self.result) built))
    (moment ∙ latest) was

pub returns-in_default-clause-written : goal.returns-in_default-clause-written
returns-in_default-clause-written g c before failures events was =
    let s = c.args.self.now in
    let latest : c.max-self.result ≡ max s.latest c.args.event.now.at = omega arith in
    lines_and_one (g.F.FormLines.form s.lines) before failures events c.args.event.now (writer_state g.S.Sink.bytes g.S.Sink.failed s) _
    (writes_none (outlet_of g.S.Sink.bytes g.S.Sink.failed s.output) _ c.in_default.not-Open)
    latest was
