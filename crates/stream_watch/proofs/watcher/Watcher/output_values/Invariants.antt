use Rattle.std.proofs.Common.{map, take}
use Rattle.stream_watch.specs.FurtherLines.{TellsFurther}
use Rattle.stream_watch.specs.OutputRows.{unplanned, value_words}
use Rattle.stream_watch.specs.Outputs.{output_view}
use Rattle.stream_watch.specs.declared.mark.Mark.TheVariants as mark
use Rattle.stream_watch.proofs.watcher.Watcher.output_values.Given as goal

abbrev pub invariant-loop-output : goal.invariant-loop-output
invariant-loop-output l =
    TellsFurther l.initial.self l.self mark.Output (map value_words (unplanned (map output_view (take l.output-index l.outputs))))
