use Rattle.std.proofs.Common.{rules}
use Rattle.stream_watch.specs.State.{state_of}
use Rattle.stream_watch.proofs.Told.{tells_to}
use Rattle.stream_watch.proofs.watcher.Watcher.planned_output.Goals as goal

pub returns-then-ne : goal.returns-then-ne
returns-then-ne c = tells_to c.args.self.now _ _ _ (state_of c.args.self.now) (c.line.ensures _ c.planned_text.ensures) (search rules)
