use Rattle.laws_lanes.proofs.TimeLinesAlike.{has_same_hooks}
use Rattle.laws_lanes.proofs.works_that_go_alike_have_the_same_hook_messages.Goals as goal

pub returns : goal.returns
returns c work other lanes events alike line = has_same_hooks work other lanes alike events line
