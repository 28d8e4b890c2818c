use Rattle.std.proofs.Common.{refl}
use Rattle.stream_watch.proofs.ProgressMessages.{progress_found}
use Rattle.stream_watch.proofs.message.progress.progress_in.Goals as goal

pub returns-in-Ok : goal.returns-in-Ok
returns-in-Ok c =
    let read = c.in-Ok.ensures.ok in
    progress_found c.progress_of.result c.read_line.new.line _ read.0 c.args.text.now refl read.1
    (read.2 _ c.new-line.ensures) c.progress_of.ensures
