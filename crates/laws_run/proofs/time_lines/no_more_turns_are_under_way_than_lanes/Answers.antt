use Rattle.laws_run.proofs.UnderWay.{few_under_way}
use Rattle.laws_run.proofs.time_lines.no_more_turns_are_under_way_than_lanes.Goals as goal

pub returns : goal.returns
returns c work n at some = few_under_way work n some at
