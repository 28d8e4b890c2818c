use Rattle.laws_lanes.proofs.WithEvents.{begun_is}
use Rattle.laws_lanes.proofs.steps_with_events_are_those_that_begin.Goals as goal

pub returns : goal.returns
returns _ work lanes events c k some line = begun_is work lanes some events line c k
