use Rattle.std.proofs.Common.{◌≡◌, ◌∙◌, ◌+◌, ◌++◌, [], ◌∷◌, List, Some, ap, drop}
use Rattle.apply_model.specs.declared.plan.step_kind.StepKind.{StepKind}
use Rattle.apply_model.specs.declared.script.script_step.ScriptStep.{ScriptStep}
use Rattle.stream_record.proofs.EvenSteps.{pushed_more}
use Rattle.stream_record_script.specs.Steps.{by_change, first_steps, other_steps}
use Rattle.stream_record_script.proofs.ChangeSteps.{by_change_more}
use Rattle.stream_record_script.proofs.steps.by_change.Goals as goal

pub loop-number-preserved : goal.loop-number-preserved
loop-number-preserved c =
    let changes = c.args.plan.now.changes in
    let steps = c.loop-number.steps.items in
    let before = c.loop-number.script.items in
    let number = c.loop-number.number in
    let change = c.change.result.now in
    let own = first_steps change.steps steps in
    let left = drop (number + 1) changes in
    let own_is : c.new.result ≡ own = c.new.ensures ∙ c.in_ok-first.ensures.first ∙ ap (λ (kinds : List StepKind). first_steps kinds steps) c.steps.ensures.steps in
    let others_is : c.first_steps.new.steps.items ≡ other_steps change.steps steps =
    c.in_ok-first.ensures.others ∙ ap (λ (kinds : List StepKind). other_steps kinds steps) c.steps.ensures.steps in
    ap (λ others. c.push.new.self.items ++ by_change left others) others_is
    ∙ pushed_more before c.push.new.self.items (Some own) (by_change (drop number changes) steps) (by_change left (other_steps change.steps steps)) _
    (by_change_more changes number change steps c.change.ensures)
    (c.in_ok-push.ensures.items ∙ ap (λ (its : List ScriptStep). before ++ Some its ∷ []) own_is) c.loop-number.invariant
