use Rattle.std.proofs.Common.{rules}
use Rattle.stream_watch.proofs.Told.{further_to}
use Rattle.stream_watch.proofs.watcher.Watcher.snippet_value.Goals as goal

pub returns-in-Some-text_member : goal.returns-in-Some-text_member
returns-in-Some-text_member c = further_to _ _ _ _ _ (c.further_text.ensures _ c.value_text.ensures) (search rules)
