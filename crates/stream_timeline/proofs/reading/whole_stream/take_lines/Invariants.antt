use Rattle.stream_timeline.proofs.FromReader.{Leads}
use Rattle.stream_timeline.proofs.reading.whole_stream.take_lines.Given as goal

-- so many lines were read
abbrev pub invariant-lines : goal.invariant-lines
invariant-lines g l = record { known : Leads l.initial.find (g.R.Read.remaining l.initial.reader) (g.R.Read.remaining l.reader) l.builder l.before }
