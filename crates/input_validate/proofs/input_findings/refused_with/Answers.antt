use Rattle.input_validate.proofs.input_findings.refused_with.Goals as goal

pub returns : goal.returns
returns c = c.joined.ensures _ _ (c.joined-all.ensures _ _ c.refused_for-first.ensures c.stuck_after_first.ensures) c.waits_without_lanes.ensures
