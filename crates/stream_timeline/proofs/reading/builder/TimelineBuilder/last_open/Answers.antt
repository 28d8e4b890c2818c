use Rattle.std.proofs.Common.{arith}
use Rattle.stream_timeline.proofs.FirstOpen.{last_matched}
use Rattle.stream_timeline.proofs.reading.builder.TimelineBuilder.last_open.Goals as goal

pub returns : goal.returns
returns c = λ timeline takes. last_matched c.args.self.now timeline c.args.address.now c.at-places.result.now takes c.at-places.ensures (omega arith)
