use Rattle.std.proofs.Common.{◌≡◌, ◌∙◌, ◌++◌, ℕ, List, None, ap, subst, sym}
use Rattle.std.specs.Prelude.{IfErr}
use Rattle.input_graph.specs.Circles.{AreRanked}
use Rattle.input_graph.specs.GraphNodes.{first_without_node}
use Rattle.input_graph.specs.PlanEdges.{change_edges}
use Rattle.input_graph.specs.StepNodes.{names_of}
use Rattle.input_graph.specs.Targets.{edge_texts}
use Rattle.input_graph.specs.Waits.{known_edges}
use Rattle.input_graph.specs.WaitsRefusal.{IsOrderly, IsRefusedAlong}
use Rattle.input_graph.proofs.WaitsRefused.{all_refused, on_ok, orderly}
use Rattle.input_graph.proofs.waits.waits_of.Goals as goal

is_orderly : (c : goal.After-drop-nodes-inside-2) → IsOrderly c.args.steps.now c.args.graph.now
is_orderly c =
    let graph = c.args.graph.now in
    let named = c.in_ok-nodes.ensures in
    let none : first_without_node (names_of c.args.steps.now) graph ≡ None =
    ap (λ (names : List (List ℕ)). first_without_node names graph) (sym named) ∙ sym c.in_ok-step.ensures ∙ c.in_default.is in
    let edges_are : edge_texts c.deref-2.result.now ≡ known_edges (names_of c.args.steps.now) graph =
    ap edge_texts c.deref-2.ensures.value ∙ c.in_ok-edges.ensures ∙ ap (λ (names : List (List ℕ)). known_edges names graph) named in
    orderly c.args.steps.now graph none
    (subst (λ (edges : List (List ℕ × List ℕ)). AreRanked (edges ++ change_edges c.args.steps.now)) edges_are (rw c.in_default-2.is at c.in_ok-node.ensures.ranked))

pub returns-clause-orderly : goal.returns-clause-orderly
returns-clause-orderly c = on_ok c.all_waits.result (is_orderly c)

pub returns-clause-err : goal.returns-clause-err
returns-clause-err c =
    let graph = c.args.graph.now in
    let named = c.in_ok-nodes.ensures in
    let edges_are : edge_texts c.in_ok-edges.edges.items ≡ known_edges (names_of c.args.steps.now) graph =
    c.in_ok-edges.ensures ∙ ap (λ (names : List (List ℕ)). known_edges names graph) named in
    all_refused c.args.steps.now graph c.all_waits.result (is_orderly c)
    (subst (λ (edges : List (List ℕ × List ℕ)). IfErr c.all_waits.result (IsRefusedAlong (names_of c.args.steps.now) edges)) edges_are
    (subst (λ (names : List (List ℕ)). IfErr c.all_waits.result (IsRefusedAlong names (edge_texts c.in_ok-edges.edges.items))) named c.all_waits.ensures.err))
