use Rattle.std.proofs.Common.{map, string_bytes, take}
use Rattle.stream_watch.specs.ProvisionerRows.{lines_told}
use Rattle.stream_watch.specs.State.{Tells, looks_of, state_of}
use Rattle.stream_watch.proofs.watcher.Watcher.output_lines.Given as goal

abbrev pub invariant-loop-line : goal.invariant-loop-line
invariant-loop-line l = Tells l.initial.self l.self
    (lines_told (looks_of l.initial.self) (state_of l.initial.self) l.name l.address (map string_bytes (take l.line-index l.lines)))
