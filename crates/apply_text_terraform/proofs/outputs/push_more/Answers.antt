use Rattle.apply_text_terraform.proofs.OutputTexts.{more_written, still_behind}
use Rattle.apply_text_terraform.proofs.outputs.push_more.Goals as goal

pub loop-output-preserved : goal.loop-output-preserved
loop-output-preserved c = record {
  written = more_written _ _ _ c.args.outputs.now c.loop-output.output-index c.output-item.result c.loop-output-test.true c.output-item.is c.in_ok-push_output.ensures.ok c.loop-output.invariant.written;
  preserved = still_behind _ _ _ c.loop-output.invariant.preserved c.in_ok-push_output.ensures.preserved;
}
