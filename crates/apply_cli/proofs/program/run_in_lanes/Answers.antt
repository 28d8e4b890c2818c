use Rattle.apply_cli.specs.Invocation.{HasAppliedAsAsked, HasBegunAsAsked}
use Rattle.apply_cli.proofs.program.run_in_lanes.Goals as goal

pub returns-clause-applied : goal.returns-clause-applied
unfolding HasAppliedAsAsked
returns-clause-applied g c = c.run_job_in_lanes.ensures.ended.applied

pub returns-clause-cut_off : goal.returns-clause-cut_off
unfolding HasBegunAsAsked
returns-clause-cut_off g c = c.run_job_in_lanes.ensures.ended.cut_off
