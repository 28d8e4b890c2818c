use Rattle.std.proofs.Common.{refl}
use Rattle.apply_plan.proofs.Plans.Elements.{holds_none}
use Rattle.apply_plan.proofs.plan.elements.Elements.new.Goals as goal

pub returns : goal.returns
returns c = holds_none _ refl c.new.ensures.items c.new-2.ensures refl
