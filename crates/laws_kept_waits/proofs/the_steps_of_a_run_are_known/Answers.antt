use Rattle.std.proofs.Common.{◌<◌, arith}
use Rattle.laws_kept_waits.proofs.KnownRun.{run_is_known}
use Rattle.laws_kept_waits.proofs.the_steps_of_a_run_are_known.Goals as goal

pub returns : goal.returns
returns c work lanes events begun recorded bytes waits run lines are stated alike =
    let some = run.some in
    let positive : 0 < lanes = omega (arith, some) in
    run_is_known work lanes events begun recorded run (record {
      late = c.a_step_comes_after_what_it_waits_for.ensures work lanes events positive run.few run.line;
      begins = c.a_step_begins_exactly_where_its_waits_are_done.ensures.begins work lanes events positive run.few run.line;
      applied = c.a_step_begins_exactly_where_its_waits_are_done.ensures.applied work lanes events positive run.line;
    }) lines bytes waits are stated alike
