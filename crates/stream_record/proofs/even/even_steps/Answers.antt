use Rattle.std.proofs.Common.{◌≡◌, ◌∙◌, ◌+◌, ◌≤◌, ◌∷◌, [], ◌++◌, List, ap, drop, length, map, subst, sym}
use Rattle.apply_model.specs.declared.script.script_step.ScriptStep.{ScriptStep}
use Rattle.apply_model.specs.declared.script.wait.Wait.{Wait}
use Rattle.apply_model.specs.Script.Limits.{max_waits}
use Rattle.stream_record.specs.EvenScript.{even_step, even_steps, steps_at, waits_at}
use Rattle.stream_record.proofs.EvenSteps.{even_steps_more, few_after, pushed_more}
use Rattle.stream_record.proofs.even.even_steps.Goals as goal

pub even_step-requires : goal.even_step-requires
even_step-requires c =
    let planned = c.args.planned.now in
    let waits = map (λ numbers. numbers.items) c.args.waits.now in
    subst (λ (after : List Wait). length after ≤ max_waits) (sym (c.in_ok-after.ensures ∙ ap (steps_at planned) c.waits_at.ensures))
    (few_after planned waits c.requires.few (c.args.first + c.loop-step.step))

pub loop-step-preserved : goal.loop-step-preserved
loop-step-preserved c =
    let planned = c.args.planned.now in
    let waits = map (λ numbers. numbers.items) c.args.waits.now in
    let first = c.args.first in
    let kinds = c.args.kinds.now in
    let step = c.loop-step.step in
    let before = c.loop-step.steps.items in
    let is : c.even_step.result ≡ even_step (steps_at planned (waits_at waits (first + step))) =
    c.even_step.ensures ∙ ap even_step (c.in_ok-after.ensures ∙ ap (steps_at planned) c.waits_at.ensures) in
    pushed_more before c.push.new.self.items (even_step (steps_at planned (waits_at waits (first + step))))
    (even_steps planned waits (first + step) (drop step kinds))
    (even_steps planned waits (first + (step + 1)) (drop (step + 1) kinds))
    (even_steps planned waits first kinds)
    (even_steps_more planned waits first kinds step c.loop-step-test.true)
    (◌∙◌ {A = List ScriptStep} c.in_ok-push.ensures.items (ap (λ (own : ScriptStep). before ++ own ∷ []) is)) c.loop-step.invariant
