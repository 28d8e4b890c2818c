use Rattle.std.proofs.Common.{ap, ◌∙◌, not}
use Rattle.std.specs.List.{list_any}
use Rattle.apply_resolve.specs.declared.hashed_id.HashedId.{HashedId}
use Rattle.apply_resolve.specs.HashedId.{is_same}
use Rattle.apply_resolve.proofs.Sets.{added_is, contains_is}
use Rattle.apply_resolve.proofs.object_set.ObjectSet.insert.Goals as goal

pub returns-clause-fresh : goal.returns-clause-fresh
returns-clause-fresh c =
    let objects = c.args.self.now.ids in
    c.in_ok-insert.ensures.added ∙ ap not (contains_is objects c.of.result ∙ ap (λ (key : HashedId). list_any (is_same key) objects.keys) c.of.ensures)

pub returns-clause-added : goal.returns-clause-added
returns-clause-added c = added_is c.args.self.now.ids c.insert.new.self c.args.id c.of.result c.of.ensures c.in_ok-insert.ensures.updates
