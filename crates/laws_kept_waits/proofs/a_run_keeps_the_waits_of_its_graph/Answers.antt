use Rattle.std.proofs.Common.{◌<◌, arith}
use Rattle.laws_kept_waits.proofs.KnownRun.{run_keeps}
use Rattle.laws_kept_waits.proofs.a_run_keeps_the_waits_of_its_graph.Goals as goal

pub returns : goal.returns
returns c work lanes events begun recorded bytes waits run lines are stated =
    let some = run.some in
    let positive : 0 < lanes = omega (arith, some) in
    run_keeps work lanes events begun recorded run (record {
      late = c.a_step_comes_after_what_it_waits_for.ensures work lanes events positive run.few run.line;
      begins = c.a_step_begins_exactly_where_its_waits_are_done.ensures.begins work lanes events positive run.few run.line;
      applied = c.a_step_begins_exactly_where_its_waits_are_done.ensures.applied work lanes events positive run.line;
    }) lines bytes waits are stated
