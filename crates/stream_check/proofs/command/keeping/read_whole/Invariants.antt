use Rattle.std.specs.Io.KnownBytes.{Consumes}
use Rattle.stream_check.proofs.command.keeping.read_whole.Given as goal

abbrev pub invariant-reads : goal.invariant-reads
invariant-reads g l = Consumes (g.R.Read.remaining l.initial.input) (g.R.Read.remaining l.input) l.bytes.items
