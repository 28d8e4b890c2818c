-- So many of the first bytes were written.
use Rattle.std.proofs.Common.{◌≤◌, length, take}
use Rattle.std.specs.Io.KnownBytes.{Appends}
use Rattle.stream_tool.proofs.writing.write_whole.Given as goal

abbrev pub invariant-writes : goal.invariant-writes
invariant-writes g l = record {
  within : l.written ≤ length l.bytes;
  appended : Appends (g.W.Write.contents l.initial.out) (g.W.Write.contents l.out) (take l.written l.bytes);
}
