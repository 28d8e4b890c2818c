use Rattle.std.proofs.Common.{refl, subst}
use Rattle.apply_resolve.specs.declared.object_id.ObjectId.{ObjectId}
use Rattle.apply_plan.specs.declared.plan.planned.Planned.{Planned}
use Rattle.apply_plan.specs.Plan.PlannedView.{planned_view}
use Rattle.apply_plan.specs.Plan.SavedPlan.{planned_at}
use Rattle.apply_plan.specs.Results.{IsExactly}
use Rattle.apply_plan.proofs.Plans.SeenSet.{seen_more, was_named, was_not_named}
use Rattle.apply_plan.proofs.Plans.WholeList.{faulty, is_new, repeats}
use Rattle.apply_plan.proofs.plan.elements.change_of.Goals as goal

-- the object that the element is about
abbrev id_of : Planned → ObjectId
id_of planned = record { address = planned.element.address; deposed = planned.element.deposed }

pub returns-then-not-branch-clause-defined : goal.returns-then-not-branch-clause-defined
returns-then-not-branch-clause-defined c = λ d earlier exactly count before memory.
    let planned = c.in-Ok.planned in
    let defined = subst (λ r. IsExactly planned_view r (planned_at c.args.number d)) c.in-Ok.is exactly in
    repeats earlier c.args.number d (planned_view planned) count defined
    (was_named (id_of planned) (planned_view planned) refl refl c.args.seen.now earlier c.in_ok-insert-in-Ok.field-0 before c.in_ok-insert-in-Ok.ensures.fresh c.if-not-branch.true)

pub returns-in_ok-copied-in-Ok-clause-defined : goal.returns-in_ok-copied-in-Ok-clause-defined
returns-in_ok-copied-in-Ok-clause-defined c = λ d earlier exactly count before.
    let planned = c.in-Ok.planned in
    let defined = subst (λ r. IsExactly planned_view r (planned_at c.args.number d)) c.in-Ok.is exactly in
    rw c.in_ok-copied-in-Ok.ensures
    (is_new earlier c.args.number d (planned_view planned) count defined
    (was_not_named (id_of planned) (planned_view planned) refl refl c.args.seen.now earlier c.in_ok-insert-in-Ok.field-0 before c.in_ok-insert-in-Ok.ensures.fresh c.if-not-branch.false))

pub returns-in_ok-copied-in-Ok-clause-seen : goal.returns-in_ok-copied-in-Ok-clause-seen
returns-in_ok-copied-in-Ok-clause-seen c = λ earlier before.
    rw c.in_ok-copied-in-Ok.ensures
    (seen_more (id_of c.in-Ok.planned) (planned_view c.in-Ok.planned) refl refl c.args.seen.now c.insert.new.self earlier before c.in_ok-insert-in-Ok.ensures.added)

pub returns-in-Err-clause-defined : goal.returns-in-Err-clause-defined
returns-in-Err-clause-defined c = λ d earlier exactly count before memory.
    faulty earlier c.args.number d c.in-Err.fault count (subst (λ r. IsExactly planned_view r (planned_at c.args.number d)) c.in-Err.is exactly)
