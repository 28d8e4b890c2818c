use Rattle.serde_json.specs.View.{view}
use Rattle.input_validate.specs.Rules.{fault_of, in_items, inside}
use Rattle.input_validate.proofs.rules.members.walk_list.Goals as goal

pub returns : goal.returns
returns g c =
    let d = view c.args.value.now in
    c.joined.ensures (fault_of d c.args.rule) (inside (in_items (g.W.Walk.findings c.args.walk.now)) c.args.rule.name d) c.fault-itself.ensures c.walk_items_at.ensures
