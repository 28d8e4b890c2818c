use Rattle.std.proofs.Common.{◌≡◌, map}
use Rattle.stream_watch.specs.FurtherLines.{TellsFurther}
use Rattle.stream_watch.specs.SnippetRow.{numbered}
use Rattle.stream_watch.proofs.Numbers.{number_behind}
use Rattle.stream_watch.proofs.watcher.Watcher.snippet_lines.Given as goal

abbrev pub invariant-loop-line : goal.invariant-loop-line
invariant-loop-line l = record {
  told : TellsFurther l.initial.self l.self l.mark (numbered l.initial.number (map (λ line. line.now) l.yielded));
  number : l.number ≡ number_behind l.initial.number (map (λ line. line.now) l.yielded);
}
