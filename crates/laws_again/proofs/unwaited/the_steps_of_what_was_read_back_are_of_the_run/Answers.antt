use Rattle.laws_again.proofs.StreamSteps.{of_run}
use Rattle.laws_again.proofs.unwaited.the_steps_of_what_was_read_back_are_of_the_run.Goals as goal

pub returns : goal.returns
returns c work lanes events reading begun loose notes recorded left back =
    of_run work lanes events reading begun loose notes recorded left back
    (c.what_is_recorded_goes_as_the_steps_went.ensures work lanes events reading begun loose notes recorded left back)
    (c.what_was_read_back_is_followed.ensures work lanes events reading begun loose notes recorded left back)
