-- The edges by which the steps of a plan wait for each other.
use Rattle.std.specs.Prelude.{ℕ, List, ◌++◌, drop, if◌then◌else◌, Option, Some, None}
use Rattle.std.specs.List.{filter_map, zip}
use Rattle.input_graph.specs.declared.step_node.StepNode.{StepNode}
use Rattle.input_graph.specs.NamedGraph.{NamedGraph}
use Rattle.input_graph.specs.StepNodes.{names_of}
use Rattle.input_graph.specs.Waits.{known_edges}

-- The edge of two steps in a row: the second waits for the first where both are of one change.
abbrev pub change_edge : StepNode × StepNode → Option (List ℕ × List ℕ)
change_edge pair = if pair.1.follows then Some (pair.1.name, pair.0.name) else None

abbrev pub change_edges : List StepNode → List (List ℕ × List ℕ)
change_edges steps = filter_map change_edge (zip steps (drop 1 steps))

-- The edges of the graph, then those of the changes.
abbrev pub plan_edges : List StepNode → NamedGraph → List (List ℕ × List ℕ)
plan_edges steps graph = known_edges (names_of steps) graph ++ change_edges steps
