use Rattle.std.proofs.Common.{rules}
use Rattle.stream_watch.proofs.ProgressMessages.{line_progresses}
use Rattle.stream_watch.proofs.message.progress.read_progress.Goals as goal

pub returns-in-Some : goal.returns-in-Some
returns-in-Some c = line_progresses c.progress_in.result c.args.find c.args.line.now c.in-Some.text.now (search rules) c.progress_in.ensures
