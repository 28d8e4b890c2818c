use Rattle.stream_view.specs.Json.{StepsSoFar}
use Rattle.stream_view.proofs.json.drawing.draw_steps.Given as goal

abbrev pub invariant-loop-place : goal.invariant-loop-place
invariant-loop-place g l = StepsSoFar l.picture l.place (g.W.Write.contents l.initial.out) (g.W.Write.contents l.out)
