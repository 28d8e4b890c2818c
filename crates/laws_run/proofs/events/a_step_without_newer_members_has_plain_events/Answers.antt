use Rattle.laws_run.proofs.PlainSteps.{events_plainly, none_left_out}
use Rattle.laws_run.proofs.events.a_step_without_newer_members_has_plain_events.Goals as goal

pub returns : goal.returns
returns c = record { steps = none_left_out; events = λ work change k worker at kind plain. events_plainly work change k kind plain worker at }
