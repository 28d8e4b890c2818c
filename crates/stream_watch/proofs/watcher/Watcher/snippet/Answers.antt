use Rattle.std.proofs.Common.{ap}
use Rattle.std.specs.List.{filter_map}
use Rattle.stream_watch.specs.SnippetRow.{value_words}
use Rattle.stream_watch.proofs.Told.{further_then, further_to}
use Rattle.stream_watch.proofs.watcher.Watcher.snippet.Goals as goal

pub returns : goal.returns
returns c =
    further_then _ _ _ _ _ _
    (further_then _ _ _ _ _ _ c.in_ok-snippet_code.ensures (further_to _ _ _ _ _ c.snippet_values.ensures (ap (filter_map value_words) c.items_of.ensures)))
    c.snippet_call.ensures
