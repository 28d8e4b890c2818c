-- What was read of the line has no line feed, is not too long, and is what the reader has lost.
use Rattle.std.proofs.Common.{◌≢◌, All}
use Rattle.std.specs.Io.KnownBytes.{Consumes}
use Rattle.stream_lines.proofs.line_reader.next_line.Given as goal

abbrev pub invariant-parts : goal.invariant-parts
invariant-parts g l = All (λ byte. byte ≢ 10) l.line.items × Consumes (g.R.Read.remaining l.initial.reader) (g.R.Read.remaining l.reader) l.line.items
