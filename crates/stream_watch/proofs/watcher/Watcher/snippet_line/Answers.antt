use Rattle.stream_watch.specs.SnippetRow.{code_words}
use Rattle.stream_watch.proofs.watcher.Watcher.snippet_line.Goals as goal

pub returns : goal.returns
returns c = c.further_text.ensures (code_words c.args.number c.args.line.now) c.in_ok-text.ensures
