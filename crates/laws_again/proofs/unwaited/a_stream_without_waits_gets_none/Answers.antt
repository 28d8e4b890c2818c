use Rattle.std.proofs.Common.{◌<◌, arith}
use Rattle.stream_record_script.specs.Runs.{steps_of_plan}
use Rattle.laws_again.specs.WithoutWaits.{line_at}
use Rattle.laws_again.proofs.unwaited.a_stream_without_waits_gets_none.Goals as goal

pub returns : goal.returns
returns c work lanes events reading begun loose notes recorded left choices after early back unnamed in_lanes are =
    let some = back.own.some in
    let positive : 0 < lanes = omega (arith, some) in
    c.steps_of_a_run_without_waits_get_no_waits.ensures.by_events work lanes events (line_at reading) (steps_of_plan begun recorded) choices after early
    positive unnamed back.own.line
    (c.the_steps_of_what_was_read_back_are_of_the_run.ensures work lanes events reading begun loose notes recorded left back)
    in_lanes are
