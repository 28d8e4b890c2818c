use Rattle.std.proofs.Common.{◌≡◌, Bool, ap, refl, sym, ◌∙◌}
use Rattle.std.specs.Prelude.{◌||◌, IfSome}
use Rattle.apply_model.specs.Script.Outcome.{IsBounded}
use Rattle.apply_plan.specs.Script.RawView.{step_view}
use Rattle.apply_plan.proofs.Scripts.Limits.{all_seen}
use Rattle.apply_plan.proofs.Scripts.Waited.{all_steps, names_unknown, no_steps, one_step}
use Rattle.apply_plan.proofs.script.entry_resolution.resolve_steps.Goals as goal
use Rattle.apply_plan.proofs.script.entry_resolution.resolve_steps.Goals.{then-lacks_step, else-lacks_step}

pub loop-step-init : goal.loop-step-init
loop-step-init c = no_steps c.args.plan.now.changes c.args.steps.now c.in_ok-outcomes.outcomes.items c.in_ok-outcomes.ensures.items

pub returns-in_default-clause-defined : goal.returns-in_default-clause-defined
returns-in_default-clause-defined c = λ memory.
    names_unknown c.args.number c.args.plan.now.changes c.args.steps.now c.loop-step.step-index c.step-item.result c.loop-step-test.true c.step-item.is
    (sym c.in_default.is ∙ rw c.deref.ensures.value at c.in_ok-waited.ensures.defined)

pub copied-requires : goal.copied-requires
copied-requires c = all_seen (λ outcome. IfSome outcome IsBounded) step_view c.args.steps.now c.loop-step.step-index c.step-item.result c.requires.bounded c.loop-step-test.true c.step-item.is

pub loop-step-preserved : goal.loop-step-preserved
loop-step-preserved c =
    let changes = c.args.plan.now.changes in
    let lacks : c.if-lacks_step.lacks_step ≡ (c.loop-step.lacks_step || c.in-Some.waited.lacks_step) =
    elim c.if-lacks_step.branch [
      | then-lacks_step w ↦ w.lacks_step-is ∙ w.if-lacks_step.true ∙ sym (ap (λ (b : Bool). b || c.in-Some.waited.lacks_step) w.if-lacks_step.true)
      | else-lacks_step w ↦ w.lacks_step-is ∙ sym (ap (λ (b : Bool). b || c.in-Some.waited.lacks_step) w.if-lacks_step.false)
    ] in
    rw (lacks, c.in_ok-push.ensures.items)
    (one_step changes c.args.steps.now c.loop-step.step-index c.step-item.result c.loop-step.outcomes.items c.loop-step.lacks_step c.in-Some.waited c.in_ok-copied.field-0 c.loop-step.invariant c.loop-step-test.true c.step-item.is
    (sym c.in-Some.is ∙ rw c.deref.ensures.value at c.in_ok-waited.ensures.defined) (rw c.in-Some.is at c.in_ok-waited.ensures.placed) c.in_ok-copied.ensures)

pub returns-then-lacks_step-2-clause-defined : goal.returns-then-lacks_step-2-clause-defined
returns-then-lacks_step-2-clause-defined c = λ memory.
    all_steps c.args.number c.args.plan.now.changes c.args.steps.now c.loop-step.step-index c.loop-step.outcomes.items c.loop-step.lacks_step c.loop-step.invariant c.loop-step-test.false
    ∙ rw c.if-lacks_step-2.true refl

pub returns-clause-defined : goal.returns-clause-defined
returns-clause-defined c =
    all_steps c.args.number c.args.plan.now.changes c.args.steps.now c.loop-step.step-index c.loop-step.outcomes.items c.loop-step.lacks_step c.loop-step.invariant c.loop-step-test.false
    ∙ rw (c.if-lacks_step-2.false, c.new.ensures) refl

pub returns-clause-placed : goal.returns-clause-placed
returns-clause-placed c = rw c.new.ensures c.loop-step.invariant.placed
