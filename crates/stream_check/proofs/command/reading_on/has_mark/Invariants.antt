use Rattle.stream_check.proofs.Searching.{Searches}
use Rattle.stream_check.proofs.command.reading_on.has_mark.Given as goal

abbrev pub invariant-lines : goal.invariant-lines
invariant-lines g l = Searches (g.R.Read.remaining l.initial.reader) (g.R.Read.remaining l.reader)
