use Rattle.stream_record_lines.proofs.outputs.each.read_statement.Goals as goal

pub returns-clause-ok : goal.returns-clause-ok
returns-clause-ok c =
    let read = c.in_ok-read_object.ensures.ok in
    (read.0, read.1, λ name. c.statement.ensures name read.0 read.3)
