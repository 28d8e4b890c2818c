use Rattle.std.proofs.Common.{rules}
use Rattle.stream_watch.proofs.Told.{further_to}
use Rattle.stream_watch.proofs.watcher.Watcher.output_value.Goals as goal

pub returns-then-is_unplanned : goal.returns-then-is_unplanned
returns-then-is_unplanned c = further_to _ _ _ _ _ (c.further_text.ensures _ c.value_text.ensures) (search rules)
