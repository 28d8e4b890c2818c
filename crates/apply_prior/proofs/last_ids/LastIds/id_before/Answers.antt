use Rattle.std.proofs.Common.{Some, None, refl}
use Rattle.apply_prior.specs.Views.{element_view}
use Rattle.apply_prior.proofs.LastDrifts.{managed}
use Rattle.apply_prior.proofs.last_ids.LastIds.id_before.Goals as goal

pub returns-in-Some : goal.returns-in-Some
returns-in-Some c drifts has =
    managed c.args.self.now.ids drifts c.id.result (Some c.in-Some.id.now) (element_view c.args.object.now) c.args.object.now.names.mode _ c.in-Managed.is c.id.ensures.address c.id.ensures.deposed c.in-Some.ensures.value refl has

pub returns-in-None : goal.returns-in-None
returns-in-None c drifts has =
    managed c.args.self.now.ids drifts c.id.result None (element_view c.args.object.now) c.args.object.now.names.mode _ c.in-Managed.is c.id.ensures.address c.id.ensures.deposed c.in-None.ensures.value refl has
