use Rattle.std.proofs.Common.{◌≡◌, drop, map}
use Rattle.apply_model.specs.Script.Outcome.{are_in_time}
use Rattle.apply_plan.specs.Script.Entry.{timed}
use Rattle.apply_plan.specs.Script.OutputView.{outputs_view}
use Rattle.apply_plan.proofs.script.raw_outputs.are_in_time.Given as goal

abbrev pub invariant-loop-output : goal.invariant-loop-output
invariant-loop-output l =
    are_in_time l.before l.seconds (map (timed l.seconds) (outputs_view (drop l.output-index l.outputs)))
    ≡ are_in_time 0 l.seconds (map (timed l.seconds) (outputs_view l.outputs))
