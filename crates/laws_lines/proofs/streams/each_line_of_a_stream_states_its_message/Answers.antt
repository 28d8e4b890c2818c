use Rattle.laws_lines.proofs.FormStream as form
use Rattle.laws_lines.proofs.PlainStream as plain
use Rattle.laws_lines.proofs.streams.each_line_of_a_stream_states_its_message.Goals as goal

pub returns-clause-default : goal.returns-clause-default
returns-clause-default c = plain.stream_stated

pub returns-clause-terraform : goal.returns-clause-terraform
returns-clause-terraform c plan script extras start operation taken has fits told = form.stream_stated plan script extras has start operation taken fits told
