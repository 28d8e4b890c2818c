use Rattle.stream_watch.specs.Ending.{first_open_told, more_open_told}
use Rattle.stream_watch.specs.State.{looks_of, state_of}
use Rattle.stream_watch.proofs.Tellings.{told_behind}
use Rattle.stream_watch.proofs.watcher.Watcher.open_steps.Goals as goal

pub returns : goal.returns
returns c =
    let w0 = c.args.self.now in
    told_behind w0 c.first_open_steps.new.self c.more_open_steps.new.self (first_open_told (looks_of w0) (state_of w0)) more_open_told c.first_open_steps.ensures c.more_open_steps.ensures
