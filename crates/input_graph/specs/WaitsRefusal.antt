-- Why a graph gives no waits.
use Rattle.std.specs.Prelude.{◌≡◌, ⊤, ℕ, List, None, Some}
use Rattle.input_graph.specs.declared.step_node.StepNode.{StepNode}
use Rattle.input_graph.specs.declared.waits_fault.WaitsFault.{WaitsFault}
use Rattle.input_graph.specs.declared.waits_fault.WaitsFault.TheVariants.{NoNode, Circle, TooMany, Memory}
use Rattle.input_graph.specs.AllWaits.{AreTooMany, HasTooManyWaits}
use Rattle.input_graph.specs.Circles.{HasNoCircle, IsOnCircle}
use Rattle.input_graph.specs.GraphNodes.{first_without_node}
use Rattle.input_graph.specs.NamedGraph.{NamedGraph}
use Rattle.input_graph.specs.PlanEdges.{plan_edges}
use Rattle.input_graph.specs.StepNodes.{names_of}

-- Each step has a node, and no edges go in a circle.
pub record IsOrderly (steps : List StepNode) (graph : NamedGraph) : Type 0 where
  pub nodes : first_without_node (names_of steps) graph ≡ None
  pub no_circle : HasNoCircle (plan_edges steps graph)

-- The fault is the first that the graph has, or memory was refused.
abbrev pub IsRefusedFor : List StepNode → NamedGraph → WaitsFault → Type 0
IsRefusedFor steps graph (NoNode step) = first_without_node (names_of steps) graph ≡ Some step
IsRefusedFor steps graph (Circle node) = (first_without_node (names_of steps) graph ≡ None) × IsOnCircle (plan_edges steps graph) node
IsRefusedFor steps graph TooMany = IsOrderly steps graph × HasTooManyWaits (names_of steps) graph
IsRefusedFor steps graph Memory = ⊤

-- The same once each step has a node and no edges go in a circle.
abbrev pub IsRefusedAlong : (steps : List (List ℕ)) → (edges : List (List ℕ × List ℕ)) → WaitsFault → Type 0
IsRefusedAlong steps edges (NoNode step) = ⊥
IsRefusedAlong steps edges (Circle node) = ⊥
IsRefusedAlong steps edges TooMany = AreTooMany steps edges
IsRefusedAlong steps edges Memory = ⊤
