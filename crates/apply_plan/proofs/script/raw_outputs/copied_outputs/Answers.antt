use Rattle.apply_model.specs.Script.Limits.{max_seconds}
use Rattle.apply_plan.proofs.Scripts.Timed.{output_in_limits}
use Rattle.apply_plan.proofs.script.raw_outputs.copied_outputs.Goals as goal

pub copied-requires : goal.copied-requires
copied-requires c = output_in_limits max_seconds c.args.seconds c.args.outputs.now c.loop-output.output-index _ c.requires.in_time c.loop-output-test.true c.requires.short
