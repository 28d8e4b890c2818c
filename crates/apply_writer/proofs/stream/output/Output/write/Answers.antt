use Rattle.std.proofs.Common.{◌≡◌, ◌+◌, ◌∙◌, length, ◌≤◌, refl, ap, subst, arith, take_all, lt-ltb, le-ltb}
use Rattle.std.specs.Prelude.{if◌then◌else◌}
use Rattle.std.specs.Io.KnownBytes.{Appends}
use Rattle.apply_writer.proofs.Streams.Writing.{writes_all, writes_part}
use Rattle.apply_writer.proofs.stream.output.Output.write.Goals as goal

pub returns-then-taken-bytes-clause-written : goal.returns-then-taken-bytes-clause-written
returns-then-taken-bytes-clause-written g c =
    let few : c.write_all-taken.result ≤ length c.args.bytes.now = omega arith in
    writes_part _ _ c.args.bytes.now c.write_all-taken.result c.in-Open.is refl few c.write_all-taken.ensures.appends
    (c.write_all-taken.ensures.failed ∙ ap (λ b. g.S.Sink.failed c.args.self.now.sink + (if b then 1 else 0)) (lt-ltb _ _ c.if-taken-bytes.true)) refl

pub returns-else-taken-bytes-clause-written : goal.returns-else-taken-bytes-clause-written
returns-else-taken-bytes-clause-written g c =
    let all : c.write_all-taken.result ≡ length c.args.bytes.now = omega arith in
    let whole : length c.args.bytes.now ≤ c.write_all-taken.result = c.if-taken-bytes.false in
    writes_all _ _ c.args.bytes.now c.in-Open.is c.in-Open.is
    (subst (Appends (g.S.Sink.bytes c.args.self.now.sink) (g.S.Sink.bytes c.write_all-taken.new.sink)) (take_all c.write_all-taken.result c.args.bytes.now whole) c.write_all-taken.ensures.appends)
    (c.write_all-taken.ensures.failed ∙ ap (λ b. g.S.Sink.failed c.args.self.now.sink + (if b then 1 else 0)) (le-ltb _ _ whole) ∙ omega arith) (ap (λ n. c.args.self.now.written + n) all)
