use Rattle.laws_run.proofs.TimeLines.Open.{few_open}
use Rattle.laws_run.proofs.TimeLines.Sharing.{few_at_once}
use Rattle.laws_run.proofs.time_lines_without_waits.no_more_changes_are_under_way_than_lanes.Goals as goal

pub returns-clause-at_a_place : goal.returns-clause-at_a_place
returns-clause-at_a_place c work n front rest line = few_open work n front rest line

pub returns-clause-at_a_moment : goal.returns-clause-at_a_moment
returns-clause-at_a_moment c work n moment = few_at_once work n moment
