use Rattle.std.proofs.Common.{◌<◌, length, arith}
use Rattle.apply_prior.proofs.LastDrifts.{more_drifts}
use Rattle.apply_prior.proofs.last_ids.LastIds.of.Goals as goal

pub loop-drift-preserved : goal.loop-drift-preserved
loop-drift-preserved c =
    let below : c.loop-drift.drift-index < length c.args.drifts.now = omega arith in
    more_drifts c.loop-drift.ids c.insert.new.self c.args.drifts.now c.loop-drift.drift-index c.drift-item.result c.of_change.result c.prior_id.result below c.drift-item.is c.of_change.ensures.address c.of_change.ensures.deposed c.prior_id.ensures c.loop-drift.invariant c.in_ok-insert.ensures.updates
