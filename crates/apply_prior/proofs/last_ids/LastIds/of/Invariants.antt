use Rattle.std.proofs.Common.{take}
use Rattle.apply_prior.proofs.LastDrifts.{HasLast}
use Rattle.apply_prior.proofs.last_ids.LastIds.of.Given as goal

abbrev pub invariant-loop-drift : goal.invariant-loop-drift
invariant-loop-drift l = HasLast l.ids (take l.drift-index l.drifts)
