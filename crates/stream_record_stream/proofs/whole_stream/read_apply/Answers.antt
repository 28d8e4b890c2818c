use Rattle.stream_record_stream.proofs.FromReader.{as_ended}
use Rattle.stream_record_stream.proofs.whole_stream.read_apply.Goals as goal

pub returns-in-Ok-clause-read : goal.returns-in-Ok-clause-read
returns-in-Ok-clause-read g c = as_ended c.args.plan.now c.args.find c.args.lines_before (g.R.Read.remaining c.args.reader.now) c.take_lines.new.so_far c.end.result c.end.ensures c.in-Ok.ensures.read
