use Rattle.std.proofs.Common.{ap, option_map}
use Rattle.std.specs.Prelude.{option_to_list}
use Rattle.stream_watch.specs.SnippetRow.{context_words}
use Rattle.stream_watch.proofs.Told.{further_as}
use Rattle.stream_watch.proofs.watcher.Watcher.snippet_context.Goals as goal

pub returns-in-Some : goal.returns-in-Some
returns-in-Some c =
    further_as _ _ _ _ _ (ap (λ context. option_to_list (option_map context_words context)) c.in-Some.ensures)
    (c.further_text.ensures (context_words c.in-Some.context.now) c.context_text.ensures)
