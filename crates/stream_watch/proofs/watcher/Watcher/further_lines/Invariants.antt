use Rattle.std.proofs.Common.{map, string_bytes, take}
use Rattle.stream_watch.specs.FurtherLines.{TellsFurther}
use Rattle.stream_watch.proofs.watcher.Watcher.further_lines.Given as goal

abbrev pub invariant-loop-line : goal.invariant-loop-line
invariant-loop-line l = TellsFurther l.initial.self l.self l.mark (map string_bytes (take l.line-index l.lines))
