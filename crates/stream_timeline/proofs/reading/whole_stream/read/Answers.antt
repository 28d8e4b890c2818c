use Rattle.stream_timeline.proofs.FromReader.{as_ended}
use Rattle.stream_timeline.proofs.reading.whole_stream.read.Goals as goal

pub returns-in-Ok : goal.returns-in-Ok
returns-in-Ok g c = as_ended c.args.find (g.R.Read.remaining c.args.reader.now) c.take_lines.new.builder.timeline c.end.result c.end.ensures.timeline c.end.ensures.none c.in-Ok.ensures.timeline
