use Rattle.std.proofs.Common.{ap, codes, ◌∙◌}
use Rattle.serde_json.specs.Find.{get_member}
use Rattle.apply_json.specs.ShallowView.{members_in}
use Rattle.apply_json.specs.Tree.{list_of}
use Rattle.apply_plan.specs.Plan.ElementsView.{items_at}
use Rattle.apply_plan.proofs.Plans.Top.{no_plan, plan_from, plan_with}
use Rattle.apply_plan.proofs.plan.plan_slots.PlanSlots.plan.Goals as goal

pub returns-in_default : goal.returns-in_default
returns-in_default c = λ d holds memory. no_plan c.args.self d holds c.in_default.ensures

pub returns-in_ok-version-in-Ok : goal.returns-in_ok-version-in-Ok
returns-in_ok-version-in-Ok c = λ d holds.
    rw (c.new-in-Ok.ensures, c.in_ok-version-in-Ok.ensures)
    (plan_from c.args.self d holds c.in-Some.version.now c.in-Some.ensures
    ∙ ap (plan_with c.in-Some.version.now) (c.in-Ok.ensures.defined (list_of (items_at (get_member (codes "resource_changes") (members_in d)))) holds.elements))

pub returns-in-Err : goal.returns-in-Err
returns-in-Err c = λ d holds memory.
    plan_from c.args.self d holds c.in-Some.version.now c.in-Some.ensures
    ∙ ap (plan_with c.in-Some.version.now) (c.in-Err.ensures.defined (list_of (items_at (get_member (codes "resource_changes") (members_in d)))) holds.elements memory)
