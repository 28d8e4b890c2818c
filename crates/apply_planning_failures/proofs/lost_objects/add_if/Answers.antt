use Rattle.std.proofs.Common.{◌&&◌, true, Bool, if◌then◌else◌, sym, ap, ◌∙◌}
use Rattle.std.specs.Option.{is_some}
use Rattle.std.specs.Map.{lookup}
use Rattle.apply_resolve.specs.ObjectIds.{is_same_id}
use Rattle.apply_planning_failures.proofs.Lost.{has_added}
use Rattle.apply_planning_failures.proofs.lost_objects.add_if.Goals as goal

pub returns-in_ok-insert : goal.returns-in_ok-insert
returns-in_ok-insert c id =
    has_added c.args.ids.now c.insert.new.self c.args.id c.in_ok-insert.ensures.updates id
    ∙ ap (λ (b : Bool). if b && is_same_id c.args.id id then true else is_some (lookup (is_same_id id) c.args.ids.now.entries)) (sym c.if-is_lost.true)
