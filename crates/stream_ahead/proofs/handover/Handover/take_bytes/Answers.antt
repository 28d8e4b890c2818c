use Rattle.stream_ahead.proofs.Ranges.{slice_range-drop}
use Rattle.std.proofs.Common.{arith}
use Rattle.stream_ahead.proofs.handover.Handover.take_bytes.Goals as goal

pub returns-clause-left : goal.returns-clause-left
returns-clause-left c = slice_range-drop c.args.self.now.bytes.items c.args.self.now.start c.min-count.result c.args.self.now.end (omega arith)
