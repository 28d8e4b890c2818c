use Rattle.std.proofs.Common.{◌≡◌, ◌-◌, ◌≤◌, length, take}
use Rattle.std.specs.Io.KnownBytes.{Appends}
use Rattle.apply_writer.proofs.sinks.sink.write_all.Given as goal

-- the bytes so far were written
abbrev pub invariant-loop-taken : goal.invariant-loop-taken
invariant-loop-taken g l = record {
  few : l.taken ≤ length l.bytes;
  written : Appends (g.S.Sink.bytes l.initial.sink) (g.S.Sink.bytes l.sink) (take l.taken l.bytes);
  failures : g.S.Sink.failed l.sink ≡ g.S.Sink.failed l.initial.sink;
}

abbrev pub decreases-loop-taken : goal.decreases-loop-taken
decreases-loop-taken g l = length l.bytes - l.taken
