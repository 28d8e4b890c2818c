use Rattle.std.proofs.Common.{ap}
use Rattle.std.specs.Prelude.{option_map, option_to_list}
use Rattle.serde_json.specs.View.{view}
use Rattle.stream_watch.specs.SnippetRow.{calling_words}
use Rattle.stream_watch.proofs.Told.{further_as}
use Rattle.stream_watch.proofs.watcher.Watcher.called_function.Goals as goal

pub returns-in-Some : goal.returns-in-Some
returns-in-Some c =
    let call = view c.args.call.now in
    further_as _ _ _ _ _ (ap (λ name. option_to_list (option_map (calling_words call) name)) c.in-Some.ensures)
    (c.further_text.ensures (calling_words call c.in-Some.name.now) c.call_text.ensures)
