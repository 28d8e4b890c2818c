use Rattle.std.proofs.Common.{◌++◌, map}
use Rattle.stream_watch.specs.OutputRows.{planned_outputs, value_outputs}
use Rattle.stream_watch.specs.Outputs.{output_view}
use Rattle.stream_watch.specs.RefreshRow.{reported_told}
use Rattle.stream_watch.specs.State.{looks_of, state_of}
use Rattle.stream_watch.proofs.Told.{told_more}
use Rattle.stream_watch.proofs.watcher.Watcher.all_outputs.Goals as goal

pub returns : goal.returns
returns c =
    let outputs = map output_view c.args.outputs.now in
    let looks = looks_of c.args.self.now in
    let reported = reported_told looks (state_of c.args.self.now) in
    told_more c.args.self.now _ _ (λ l s. value_outputs l s outputs) (reported.bytes ++ planned_outputs looks reported.state outputs) reported.state
    (told_more c.args.self.now _ _ (λ l s. planned_outputs l s outputs) reported.bytes reported.state c.report_refreshes.ensures c.planned_outputs.ensures)
    c.value_outputs.ensures
