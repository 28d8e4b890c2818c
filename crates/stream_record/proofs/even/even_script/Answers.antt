use Rattle.std.proofs.Common.{◌≡◌, ◌∙◌, ◌+◌, ◌≤◌, ◌∷◌, [], ◌++◌, List, Some, append-nil, ap, arith, drop, length, map, subst, sym}
use Rattle.std.proofs.lemmas.List.{drop_all}
use Rattle.apply_model.specs.declared.plan.step_kind.StepKind.{StepKind}
use Rattle.apply_model.specs.declared.script.script_step.ScriptStep.{ScriptStep}
use Rattle.apply_model.specs.declared.script.wait.Wait.{Wait}
use Rattle.apply_model.specs.Plan.ResourceChange.{ResourceChange}
use Rattle.stream_record.specs.EvenScript.{even_changes, even_script, even_steps, planned_steps}
use Rattle.stream_record.proofs.EvenSteps.{even_changes_more, pushed_more}
use Rattle.stream_record.proofs.even.even_script.Goals as goal

pub loop-number-preserved : goal.loop-number-preserved
loop-number-preserved c =
    let changes = c.args.plan.now.changes in
    let planned = planned_steps changes in
    let waits = map (λ numbers. numbers.items) c.args.waits.now in
    let first = c.loop-number.first in
    let number = c.loop-number.number in
    let change = c.change.result.now in
    let before = c.loop-number.changes.items in
    let own = even_steps planned waits first change.steps in
    let kinds_is : c.steps-kinds.result.now ≡ change.steps = c.steps-kinds.ensures.steps in
    let is : c.new.result ≡ own =
    c.new.ensures ∙ c.in_ok-steps.ensures
    ∙ ap (λ (steps : List Wait). even_steps steps waits first c.steps-kinds.result.now) (c.deref.ensures.value ∙ c.in_ok-planned.ensures)
    ∙ ap (even_steps planned waits first) kinds_is in
    let more = pushed_more before c.push.new.self.items (Some own) (even_changes planned waits first (drop number changes))
    (even_changes planned waits (first + length change.steps) (drop (number + 1) changes))
    (even_script changes waits) (even_changes_more planned waits first changes number change c.change.ensures)
    (c.in_ok-push.ensures.items ∙ ap (λ (steps : List ScriptStep). before ++ Some steps ∷ []) is) c.loop-number.invariant.begun in
    record {
      few = omega (arith, c.loop-number.invariant.few, c.steps-kinds.ensures.few, ap length kinds_is);
      begun = subst (λ (kinds : List StepKind). c.push.new.self.items ++ even_changes planned waits (first + length kinds) (drop (number + 1) changes) ≡ even_script changes waits)
          (sym kinds_is) more;
    }

pub returns : goal.returns
returns c =
    let changes = c.args.plan.now.changes in
    let planned = planned_steps changes in
    let waits = map (λ numbers. numbers.items) c.args.waits.now in
    let ends : length changes ≤ c.loop-number.number = omega (arith, c.len-number-end.ensures.len, c.loop-number-test.false) in
    sym (append-nil c.loop-number.changes.items)
    ∙ ap (λ (left : List ResourceChange). c.loop-number.changes.items ++ even_changes planned waits c.loop-number.first left)
    (sym (drop_all c.loop-number.number changes ends))
    ∙ c.loop-number.invariant.begun
