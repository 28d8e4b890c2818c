use Rattle.std.proofs.Common.{◌≡◌, ◌∙◌, ◌<◌, ◌≤◌, List, ap, get_or, length, arith}
use Rattle.stream_timeline.specs.Steps.{StepRead}
use Rattle.stream_view.proofs.Objects.{step_more, steps_all}
use Rattle.stream_view.proofs.json.drawing.draw_steps.Goals as goal

pub loop-place-preserved : goal.loop-place-preserved
loop-place-preserved g c =
    let steps = c.args.picture.now.timeline.now.steps in
    let place = c.loop-place.place in
    let below : place < length steps = omega (arith, c.loop-place-test.true, ap length c.steps-step-items.ensures) in
    let step = c.step-item.result in
    let is : step ≡ get_or steps place step = c.step-item.is ∙ ap (λ (ss : List StepRead). get_or ss place step) c.steps-step-items.ensures in
    step_more c.args.picture.now place step _ _ _ below is c.loop-place.invariant c.in_ok-draw_step.ensures

pub returns : goal.returns
returns g c =
    let steps = c.args.picture.now.timeline.now.steps in
    let ends : length steps ≤ c.loop-place.place = omega (arith, c.loop-place-test.false, ap length c.steps-step-items.ensures) in
    steps_all c.args.picture.now c.loop-place.place _ _ ends c.loop-place.invariant
