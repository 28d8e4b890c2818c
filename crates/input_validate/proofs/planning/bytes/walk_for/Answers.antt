-- The objects of the plan are those that it states.
use Rattle.std.proofs.Common.{◌≡◌, List, Bool, Option, Some, map, option_map, ap, subst, sym, ◌∙◌}
use Rattle.std.specs.Prelude.{IfOk}
use Rattle.serde_json.specs.View.{view}
use Rattle.apply_model.specs.Plan.ResourceChange.{ResourceChange}
use Rattle.apply_prior.specs.Prior.{PriorOfPlan}
use Rattle.apply_prior.specs.declared.prior_object.PriorObject.{PriorObject}
use Rattle.input_validate.specs.Findings.{reported}
use Rattle.input_validate.specs.Planning.{in_planning, objects_unless}
use Rattle.input_validate.proofs.PriorNames.{objects_in, views_in}
use Rattle.input_validate.proofs.planning.bytes.walk_for.Goals as goal

pub returns-in-Ok : goal.returns-in-Ok
returns-in-Ok c =
    let priors = c.in-Ok.prior.objects.items in
    let known : objects_unless c.args.is_refused c.args.plan.now ≡ Some (objects_in c.deref.result.now) =
    ap (λ (refused : Bool). objects_unless refused c.args.plan.now) c.if-is_refused.false
    ∙ ap (λ (o : Option PriorOfPlan). option_map (λ it. map (λ object. object.object) it.objects) o) c.in-Ok.ensures.ok
    ∙ ap (λ (all : List ResourceChange). Some all) (views_in priors)
    ∙ ap (λ (all : List PriorObject). Some (objects_in all)) (sym c.deref.ensures.value) in
    subst (λ (o : Option (List ResourceChange)). IfOk c.walk_with.result (λ f. f ≡ reported (in_planning o (view c.args.script.now)))) (sym known) c.walk_with.ensures
