use Rattle.std.proofs.Common.{false, sym, ap, ◌∙◌}
use Rattle.std.specs.Option.{option_map_or}
use Rattle.apply_planning_failures.specs.LostObjects.{has_object}
use Rattle.apply_planning_failures.proofs.ToldChanges.{kept_unless_lost}
use Rattle.apply_planning_failures.proofs.kept.is_kept.Goals as goal

pub returns-in-Some : goal.returns-in-Some
returns-in-Some c failed planning has =
    kept_unless_lost failed planning c.args.lost.now c.of_change-id.result c.args.change.now c.has.result c.of_change-id.ensures.address c.of_change-id.ensures.deposed has
    (c.has.ensures ∙ ap (λ lost. option_map_or (λ objects. has_object objects c.of_change-id.result) lost false) (sym c.in-Some.is))

pub returns-in-None : goal.returns-in-None
returns-in-None c failed planning has =
    kept_unless_lost failed planning c.args.lost.now c.of_change-id.result c.args.change.now false c.of_change-id.ensures.address c.of_change-id.ensures.deposed has
    (ap (λ lost. option_map_or (λ objects. has_object objects c.of_change-id.result) lost false) (sym c.in-None.is))
