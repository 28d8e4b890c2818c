use Rattle.std.proofs.Common.{append-nil, refl, sym}
use Rattle.input_graph.proofs.Joined.{joined_none, same_graph}
use Rattle.input_graph.proofs.graph.Graph.add.Goals as goal

pub returns-in-Other-clause-ok : goal.returns-in-Other-clause-ok
returns-in-Other-clause-ok c = rw c.in-Other.is (refl, joined_none c.args.self.now)

pub returns-in_ok-push-in-Node-clause-ok : goal.returns-in_ok-push-in-Node-clause-ok
returns-in_ok-push-in-Node-clause-ok c =
    rw (c.in-Node.is, ← c.self.view_is) (refl, same_graph _ _ _ _ c.in_ok-push-in-Node.ensures.items (sym (append-nil _)))

pub returns-in_ok-push-in-Edge-clause-ok : goal.returns-in_ok-push-in-Edge-clause-ok
returns-in_ok-push-in-Edge-clause-ok c =
    rw (c.in-Edge.is, ← c.self.view_is) (refl, same_graph _ _ _ _ (sym (append-nil _)) c.in_ok-push-in-Edge.ensures.items)
