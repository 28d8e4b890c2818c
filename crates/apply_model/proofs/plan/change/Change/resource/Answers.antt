use Rattle.apply_model.proofs.Plans.Relative.{relative_answer}
use Rattle.apply_model.proofs.plan.change.Change.resource.Goals as goal

pub returns : goal.returns
returns c =
    rw (← c.self.view_is) (relative_answer c.as_str.result.now c.as_str-2.result.now c.self.inside.parts.module_address c.self.inside.parts.address c.relative_address.result c.unwrap.result c.as_str.ensures c.as_str-2.ensures c.relative_address.ensures c.unwrap.ensures)
