use Rattle.std.proofs.Common.{◌≡◌, ◌∙◌, List, Option, ap, length, ℕ}
use Rattle.stream_record_waits.specs.Basis.{basis_of, course_of}
use Rattle.stream_record_waits.specs.Course.{pin_at, with_wait}
use Rattle.stream_record_waits.specs.Graph.{waits_at}
use Rattle.stream_record_waits.proofs.Ranges.{pushed_row}
use Rattle.stream_record_waits.proofs.Rows.{row_got}
use Rattle.stream_record_waits.proofs.pins.with_pins.Goals as goal

pub loop-step-preserved : goal.loop-step-preserved
loop-step-preserved c =
    let basis = basis_of c.args.basis.now in
    let course = course_of c.args.course.now in
    let step = c.loop-step.step in
    let f : ℕ → List ℕ = λ other. with_wait (pin_at basis course other) (waits_at basis.after other) in
    let waits : c.as_slice.result.now ≡ waits_at basis.after step = c.as_slice.ensures.value ∙ row_got c.args.basis.now.after.now (length c.args.basis.now.steps.now) step c.index-basis-step.result c.requires.sound.after c.loop-step-test.true in
    pushed_row f step c.loop-step.waits.items c.push.new.self.items c.in_ok-row.row c.loop-step.invariant
    (c.in_ok-row.ensures ∙ ap (λ (pin : Option ℕ). with_wait pin c.as_slice.result.now) c.pin-pin.ensures ∙ ap (with_wait (pin_at basis course step)) waits)
    c.in_ok-push.ensures.items
