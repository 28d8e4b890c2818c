use Rattle.laws_lines.proofs.FormReading as form
use Rattle.laws_lines.proofs.PlainReading as plain
use Rattle.laws_lines.proofs.readings.record_reads_the_stream_of_a_run.Goals as goal

pub returns-clause-default : goal.returns-clause-default
returns-clause-default c plan script start operation taken before has fits told planned falls short =
    plain.stream_read plan script start operation taken planned falls before has fits told short

pub returns-clause-terraform : goal.returns-clause-terraform
returns-clause-terraform c plan script extras start operation taken before has fits told planned falls short =
    form.stream_read plan script extras start operation taken planned falls before has fits told short
