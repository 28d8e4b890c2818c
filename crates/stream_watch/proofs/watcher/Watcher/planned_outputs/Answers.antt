use Rattle.std.proofs.Common.{◌<◌, arith, length, map, sym, take}
use Rattle.stream_watch.specs.OutputRows.{planned_action, planned_bytes, planned_outputs}
use Rattle.stream_watch.specs.Outputs.{OutputView, output_view}
use Rattle.stream_watch.specs.State.{looks_of, state_of}
use Rattle.stream_watch.proofs.Items.{flat_map_take-more}
use Rattle.stream_watch.proofs.Told.{tells_as, told_more}
use Rattle.stream_watch.proofs.watcher.Watcher.planned_outputs.Goals as goal

pub loop-output-preserved : goal.loop-output-preserved
loop-output-preserved c =
    let outputs = c.args.outputs.now in
    let looks = looks_of c.args.self.now in
    let state = state_of c.args.self.now in
    let output = c.output-item.result in
    let view = output_view output in
    let seen = map output_view (take c.loop-output.output-index outputs) in
    let below : c.loop-output.output-index < length outputs = omega arith in
    tells_as c.args.self.now _ _ _ state
    (sym (flat_map_take-more (λ (o : OutputView). planned_bytes looks state o (planned_action o)) output_view outputs c.loop-output.output-index output below c.output-item.is))
    (told_more c.args.self.now _ _ (λ l s. planned_bytes l s view (planned_action view)) (planned_outputs looks state seen) state
    c.loop-output.invariant c.planned_output.ensures)
