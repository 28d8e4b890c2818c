use Rattle.apply_model.proofs.Prefixes.{stripped}
use Rattle.apply_model.proofs.plan.address.strip.Goals as goal

pub returns : goal.returns
returns c = stripped c.args.prefix.now c.args.text.now c.strip_prefix.result c.strip_prefix.ensures.cases
