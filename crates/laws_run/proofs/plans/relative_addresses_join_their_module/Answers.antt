use Rattle.laws_run.proofs.AcceptedPlans.{all_joined}
use Rattle.laws_run.proofs.plans.relative_addresses_join_their_module.Goals as goal

pub returns : goal.returns
returns c = all_joined
