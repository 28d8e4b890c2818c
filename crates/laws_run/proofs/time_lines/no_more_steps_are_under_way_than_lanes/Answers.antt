use Rattle.std.proofs.Common.{length}
use Rattle.std.specs.List.{range_with_len}
use Rattle.apply_events.specs.Waits.Schedule.{schedule}
use Rattle.laws_run.specs.StepsUnderWay.{steps_of_plan}
use Rattle.laws_run.proofs.FewUnderWay.{few_at_a_moment, few_between}
use Rattle.laws_run.proofs.OpenInLanes.{few_open_at_once}
use Rattle.laws_run.proofs.StepsOnce.{each_change_once, each_step_once, is_change, is_step}
use Rattle.laws_run.proofs.time_lines.no_more_steps_are_under_way_than_lanes.Goals as goal

pub returns-clause-changes_at_a_place : goal.returns-clause-changes_at_a_place
returns-clause-changes_at_a_place c work n front rest line =
    few_open_at_once is_change work (range_with_len 0 (length work.plan.changes)) (each_change_once (length work.plan.changes)) n (schedule work n) front rest line.interleaved

pub returns-clause-steps_at_a_place : goal.returns-clause-steps_at_a_place
returns-clause-steps_at_a_place c work n front rest line =
    few_open_at_once is_step work (steps_of_plan work.plan) (λ change step. each_step_once work.plan change step) n (schedule work n) front rest line.interleaved

pub returns-clause-on_both_sides : goal.returns-clause-on_both_sides
returns-clause-on_both_sides c work n front rest line = few_between work n front rest line.interleaved

pub returns-clause-at_a_moment : goal.returns-clause-at_a_moment
returns-clause-at_a_moment c work n moment events line = few_at_a_moment work n moment events line
