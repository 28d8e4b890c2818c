use Rattle.laws_queue.proofs.RunSchedule.{schedule_is}
use Rattle.laws_queue.proofs.a_run_without_waits_starts_the_changes_in_turn.Goals as goal

pub returns : goal.returns
returns c = λ work lanes none. schedule_is work lanes none
