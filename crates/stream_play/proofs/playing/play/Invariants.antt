-- So many lines were played.
use Rattle.std.specs.Io.Buffered.{reader_remaining}
use Rattle.stream_play.proofs.Written.{Played}
use Rattle.stream_play.proofs.playing.play.Given as goal

abbrev pub invariant-lines : goal.invariant-lines
invariant-lines g l = Played l.initial.find (reader_remaining g.R.Read.remaining l.initial.reader) (reader_remaining g.R.Read.remaining l.reader) l.before (g.W.Write.contents l.initial.output) (g.W.Write.contents l.output)
