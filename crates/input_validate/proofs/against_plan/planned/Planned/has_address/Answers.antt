use Rattle.std.proofs.Common.{List, Some, is_some, ap, ◌∙◌}
use Rattle.apply_model.specs.Plan.ResourceChange.{ResourceChange}
use Rattle.input_validate.specs.AgainstPlan.{has_address}
use Rattle.input_validate.specs.FirstNamed.{at_addresses}
use Rattle.input_validate.specs.ObjectNames.{Named}
use Rattle.input_validate.specs.PlanFindings.{first_named}
use Rattle.input_validate.proofs.FirstNames.{anywhere}
use Rattle.input_validate.proofs.against_plan.planned.Planned.has_address.Goals as goal

pub returns : goal.returns
returns c =
    let changes = c.self.inside.plan.now.changes in
    c.is_some.ensures
    ∙ ap (λ o. is_some o) (c.get.ensures (at_addresses changes) c.self.invariant.2)
    ∙ ap (λ (name : Named). is_some (first_named (at_addresses changes) (Some name))) c.at_address.ensures
    ∙ anywhere c.args.address.now changes 0
    ∙ ap (λ (all : List ResourceChange). has_address all c.args.address.now) c.self.view_is
