use Rattle.std.proofs.Common.{◌<◌, arith, length, sym}
use Rattle.serde_json.specs.View.{view}
use Rattle.stream_watch.specs.SnippetRow.{value_words}
use Rattle.stream_watch.proofs.Items.{filter_map_take-more}
use Rattle.stream_watch.proofs.Told.{further_as, further_then}
use Rattle.stream_watch.proofs.watcher.Watcher.snippet_values.Goals as goal

pub loop-value-preserved : goal.loop-value-preserved
loop-value-preserved c =
    let values = c.args.values.now in
    let below : c.loop-value.value-index < length values = omega arith in
    further_as _ _ _ _ _ (sym (filter_map_take-more value_words view values c.loop-value.value-index c.value-item.result below c.value-item.is))
    (further_then _ _ _ _ _ _ c.loop-value.invariant c.snippet_value.ensures)
