use Rattle.stream_watch.specs.Ending.{open_told_unless, planned_steps_told}
use Rattle.stream_watch.specs.RefreshRow.{reported_told}
use Rattle.stream_watch.specs.State.{looks_of, state_of, told_then}
use Rattle.stream_watch.proofs.Tellings.{told_behind}
use Rattle.stream_watch.proofs.watcher.Watcher.end.Goals as goal

pub returns : goal.returns
returns c =
    let w0 = c.args.self.now in
    let w1 = c.report_refreshes.new.self in
    let w2 = c.open_steps_unless.new.self in
    let w3 = c.planned_steps.new.self in
    let refreshes = reported_told (looks_of w0) (state_of w0) in
    let unended = told_behind w0 w1 w2 refreshes (open_told_unless c.args.is_whole) c.report_refreshes.ensures c.open_steps_unless.ensures in
    told_behind w0 w2 w3 (told_then refreshes (open_told_unless c.args.is_whole (looks_of w0))) planned_steps_told unended c.planned_steps.ensures
