use Rattle.std.proofs.Common.{◌∙◌, arith}
use Rattle.apply_writer.proofs.Streams.Writing.{accepted_more}
use Rattle.apply_writer.proofs.sinks.sink.write_all.Goals as goal

pub loop-taken-preserved : goal.loop-taken-preserved
loop-taken-preserved g c =
    let was = c.loop-taken.invariant in let step = c.in-Ok.ensures.ok in
    record {
      few = omega arith;
      written = accepted_more _ _ _ _ _ _ was.written step.2;
      failures = step.3 ∙ was.failures;
    }
