use Rattle.std.proofs.Common.{map, take}
use Rattle.std.specs.List.{filter_map}
use Rattle.serde_json.specs.View.{view}
use Rattle.stream_watch.specs.FurtherLines.{TellsFurther}
use Rattle.stream_watch.specs.SnippetRow.{value_words}
use Rattle.stream_watch.proofs.watcher.Watcher.snippet_values.Given as goal

abbrev pub invariant-loop-value : goal.invariant-loop-value
invariant-loop-value l = TellsFurther l.initial.self l.self l.mark (filter_map value_words (map view (take l.value-index l.values)))
