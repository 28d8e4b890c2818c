use Rattle.std.proofs.Common.{length}
use Rattle.stream_record_waits.specs.Reached.{size_of}
use Rattle.stream_record_waits.proofs.Rows.{row_known}
use Rattle.stream_record_waits.proofs.reached.Reached.add_passed_on.Goals as goal

pub add_all-requires-clause-known : goal.add_all-requires-clause-known
add_all-requires-clause-known c =
    row_known c.args.graph.now (length c.args.steps.now) c.args.step c.index-graph-step.result c.requires.known c.requires.step c.index-graph-step.is c.as_slice.result.now (size_of c.args.self.now)
    c.as_slice.ensures.value c.requires.size
