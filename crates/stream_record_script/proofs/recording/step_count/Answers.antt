use Rattle.std.proofs.Common.{◌∙◌, ◌+◌, ◌≡◌, ℕ, ap, arith, drop, length, subst, sym}
use Rattle.stream_record_steps.specs.Steps.{planned_from, planned_steps}
use Rattle.stream_record_script.proofs.Counted.{counted_more}
use Rattle.stream_record_script.proofs.recording.step_count.Goals as goal

pub loop-number-preserved : goal.loop-number-preserved
loop-number-preserved c =
    let changes = c.args.plan.now.changes in
    let number = c.loop-number.number in
    let count = c.loop-number.count in
    let kinds_are = ap length c.steps.ensures.steps in
    record {
      few = omega (arith, c.loop-number.invariant.few, c.steps.ensures.few, kinds_are);
      counted =
          subst (λ (more : ℕ). (count + more) + length (planned_from (number + 1) (count + more) (drop (number + 1) changes)) ≡ length (planned_steps changes))
          (sym kinds_are)
          (sym (counted_more changes number count c.change.result.now c.change.ensures) ∙ c.loop-number.invariant.counted);
    }
