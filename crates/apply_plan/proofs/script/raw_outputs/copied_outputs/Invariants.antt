use Rattle.std.proofs.Common.{◌≡◌, map, take}
use Rattle.apply_plan.specs.Script.Entry.{timed}
use Rattle.apply_plan.specs.Script.OutputView.{outputs_view}
use Rattle.apply_plan.proofs.script.raw_outputs.copied_outputs.Given as goal

abbrev pub invariant-loop-output : goal.invariant-loop-output
invariant-loop-output l = l.texts.items ≡ map (timed l.seconds) (outputs_view (take l.output-index l.outputs))
