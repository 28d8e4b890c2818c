use Rattle.std.proofs.Common.{◌++◌, ap, map}
use Rattle.stream_watch.specs.FurtherLines.{further_lines}
use Rattle.stream_watch.specs.OutputRows.{count_bytes, unplanned, value_words}
use Rattle.stream_watch.specs.Outputs.{output_view}
use Rattle.stream_watch.specs.State.{looks_of, state_of}
use Rattle.stream_watch.specs.declared.mark.Mark.TheVariants as mark
use Rattle.stream_watch.proofs.Told.{tells_as, told_further}
use Rattle.stream_watch.proofs.watcher.Watcher.value_outputs.Goals as goal

pub returns : goal.returns
returns c =
    let looks = looks_of c.args.self.now in
    let state = state_of c.args.self.now in
    let texts = map value_words (unplanned (map output_view c.args.outputs.now)) in
    tells_as c.args.self.now _ _ _ state
    (ap (λ count. count_bytes looks state count ++ further_lines looks mark.Output texts) c.count_unplanned.ensures)
    (told_further c.args.self.now _ _ mark.Output (count_bytes looks state c.count_unplanned.result) state texts c.output_count.ensures c.output_values.ensures)
