use Rattle.laws_run.proofs.Latest.{own_of_hook_message}
use Rattle.laws_run.proofs.lines.a_hook_message_has_the_time_of_its_event.Goals as goal

pub returns : goal.returns
returns c = own_of_hook_message
