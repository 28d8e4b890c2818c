use Rattle.std.proofs.Common.{◌∙◌, List, subst}
use Rattle.std.proofs.lemmas.Result.{err_from_is_err_and}
use Rattle.input_graph.specs.AllWaits.{AreAllWaits, lists_in}
use Rattle.input_graph.specs.Circles.{AreRanked}
use Rattle.input_graph.specs.PlanEdges.{plan_edges}
use Rattle.input_graph.specs.StepNodes.{names_of}
use Rattle.input_graph.specs.declared.step_node.StepNode.{StepNode}
use Rattle.stream_record_cli.proofs.Refused.{graphless, waitless}
use Rattle.stream_record_cli.proofs.command.waits.graph_waits.Goals as goal

pub returns-in_err-graph-clause-err : goal.returns-in_err-graph-clause-err
returns-in_err-graph-clause-err c =
    let p = err_from_is_err_and c.from_residual.result c.from_residual.ensures.1 in
    rw (p.1, p.2) (graphless c.args.plan.now.changes c.args.graph.now _ c.in_err-graph.ensures.err)

pub returns-in-Ok-clause-ok : goal.returns-in-Ok-clause-ok
returns-in-Ok-clause-ok c = record {
  graph = c.in_ok-graph.graph;
  read = c.in_ok-graph.ensures.ok;
  are = subst (λ (nodes : List StepNode). AreAllWaits (names_of nodes) c.in_ok-graph.graph (lists_in c.in-Ok.waits.items)) (c.deref.ensures.value ∙ c.in_ok-nodes.ensures) c.in-Ok.ensures.ok;
  ranked = subst (λ (nodes : List StepNode). AreRanked (plan_edges nodes c.in_ok-graph.graph)) (c.deref.ensures.value ∙ c.in_ok-nodes.ensures) c.in-Ok.ensures.ranked;
}

pub returns-clause-err : goal.returns-clause-err
returns-clause-err c =
    waitless c.args.plan.now.changes c.args.graph.now c.in_ok-graph.graph c.deref.result.now c.in-Err.fault c.waitless.result.fault
    c.in_ok-graph.ensures.ok (c.deref.ensures.value ∙ c.in_ok-nodes.ensures) c.in-Err.ensures.err c.waitless.ensures
