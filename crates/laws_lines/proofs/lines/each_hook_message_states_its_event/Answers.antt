use Rattle.laws_lines.proofs.FormStream as form
use Rattle.laws_lines.proofs.PlainStream as plain
use Rattle.laws_lines.proofs.lines.each_hook_message_states_its_event.Goals as goal

pub returns-clause-default : goal.returns-clause-default
returns-clause-default c plan script start clock one change kind has few small is at hook named =
    plain.hook_stated plan script has start clock few one small change kind is at hook named

pub returns-clause-terraform : goal.returns-clause-terraform
returns-clause-terraform c plan script extras start clock one change kind has few small is at loud hook named =
    form.hook_stated plan script extras has start clock few one small change kind is at loud hook named
