use Rattle.apply_cli.specs.Invocation.{HasAppliedAsAsked, HasBegunAsAsked}
use Rattle.apply_cli.proofs.program.run_command.Goals as goal

pub returns-clause-applied : goal.returns-clause-applied
unfolding HasAppliedAsAsked
returns-clause-applied g c = λ good.
    let run = c.run_job.ensures.ended.applied good in
    (run.0, record { report = run.1.report; applied = run.1.applied; alone = run.1.alone; status_is = run.1.status_is }, run.2)

pub returns-clause-cut_off : goal.returns-clause-cut_off
unfolding HasBegunAsAsked
returns-clause-cut_off g c = c.run_job.ensures.ended.cut_off
