use Rattle.laws_validate.proofs.BytesPlaced.{plan_placed, plan_unwarned}
use Rattle.laws_validate.proofs.findings_in_plans_are_placed.Goals as goal

pub returns : goal.returns
returns c = record { placed = plan_placed; refusals = plan_unwarned }
