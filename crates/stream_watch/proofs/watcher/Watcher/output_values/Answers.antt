use Rattle.std.proofs.Common.{◌<◌, arith, length, sym}
use Rattle.stream_watch.proofs.Outputs.{values-more}
use Rattle.stream_watch.proofs.Told.{further_as, further_then}
use Rattle.stream_watch.proofs.watcher.Watcher.output_values.Goals as goal

pub loop-output-preserved : goal.loop-output-preserved
loop-output-preserved c =
    let outputs = c.args.outputs.now in
    let below : c.loop-output.output-index < length outputs = omega arith in
    further_as _ _ _ _ _ (sym (values-more outputs c.loop-output.output-index c.output-item.result below c.output-item.is))
    (further_then _ _ _ _ _ _ c.loop-output.invariant c.output_value.ensures)
