use Rattle.std.proofs.Common.{◌∙◌, ◌++◌, ◌-◌, List, ℕ, Bor, Vec, Global, arith, sym, ap, get_or}
use Rattle.std.proofs.lemmas.List.{get_or_default}
use Rattle.input_graph.specs.declared.step_node.StepNode.{StepNode}
use Rattle.input_graph.specs.Targets.{edge_texts}
use Rattle.input_graph.proofs.ChangeEdges.{all_edges, edge_joins, no_edge_joins}
use Rattle.input_graph.proofs.change_edges.add_change_edges.Goals as goal
use Rattle.input_graph.proofs.change_edges.add_change_edges.Goals.{then-step+in_ok-push, else-step}

pub loop-place-preserved : goal.loop-place-preserved
loop-place-preserved c =
    let items = λ (edges : Vec (Bor (List ℕ) × Bor (List ℕ)) Global). edges.items in
    let some = c.loop-place.auto.place in
    elim c.if-step.branch [
      | then-step+in_ok-push w ↦
          edge_joins c.args.steps.now c.loop-place.place w.index-steps-place-then-step.result c.index-steps-place.result (edge_texts c.args.edges.now.items) c.loop-place.edges.items c.if-step.edges.items
          some c.loop-place-test.true w.index-steps-place-then-step.is c.index-steps-place.is c.loop-place.invariant
          w.as_str.result w.as_str-then-step.result w.if-step.true
          w.as_str.ensures
          (w.as_str-then-step.ensures ∙ ap (λ (s : StepNode). s.name) (sym w.index-steps-place-then-step.is))
          (ap items w.edges-is ∙ w.in_ok-push.ensures.items)
      | else-step w ↦
          no_edge_joins c.args.steps.now c.loop-place.place (get_or c.args.steps.now (c.loop-place.place - 1) c.index-steps-place.result) c.index-steps-place.result (edge_texts c.args.edges.now.items)
          c.loop-place.edges.items c.if-step.edges.items some c.loop-place-test.true
          (get_or_default c.args.steps.now (c.loop-place.place - 1) c.index-steps-place.result _ (omega arith)) c.index-steps-place.is c.loop-place.invariant w.if-step.false
          (ap items w.edges-is)
    ]

pub returns : goal.returns
returns c =
    let last = c.loop-place-test.false in
    let some = c.loop-place.auto.place in
    c.loop-place.invariant
    ∙ ap (λ (list : List (List ℕ × List ℕ)). edge_texts c.args.edges.now.items ++ list) (all_edges c.args.steps.now (c.loop-place.place - 1) (omega (arith, last, some)))
