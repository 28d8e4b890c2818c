use Rattle.std.proofs.Common.{◌<◌, length, arith}
use Rattle.input_validate.proofs.Collected.{begin_more}
use Rattle.input_validate.proofs.findings.list.begin_with.Goals as goal

pub loop-finding-preserved : goal.loop-finding-preserved
loop-finding-preserved c =
    let below : c.loop-finding.finding-index < length c.args.stored.now = omega arith in
    begin_more c.args.segment c.args.stored.now c.loop-finding.stored c.loop-finding.finding-index c.finding-item.result c.begin_with.new.self below c.loop-finding.invariant c.finding-item.is c.in_ok-begin_with.ensures
