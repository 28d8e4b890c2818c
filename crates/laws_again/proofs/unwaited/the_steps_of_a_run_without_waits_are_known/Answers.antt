use Rattle.laws_again.proofs.KnownWaits.{known_without_waits}
use Rattle.laws_again.proofs.unwaited.the_steps_of_a_run_without_waits_are_known.Goals as goal

pub returns : goal.returns
returns c work lanes events reading begun loose notes recorded left choices after early back unnamed are sound none =
    known_without_waits work lanes begun recorded reading.telling.id choices after early back.own.hooks back.own.some
    (c.what_is_recorded_goes_as_the_steps_went.ensures work lanes events reading begun loose notes recorded left back) unnamed are sound none
