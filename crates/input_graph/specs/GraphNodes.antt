-- The nodes of a graph, by the names under which the steps know them.
use Rattle.std.specs.Prelude.{ℕ, List, [], ◌∷◌, ◌++◌, map, not, Bool, Option}
use Rattle.std.specs.List.{flat_map, list_any, position_from}
use Rattle.std.specs.Str.{bytes_eq}
use Rattle.input_graph.specs.NamedGraph.{NamedGraph}
use Rattle.input_graph.specs.StepNodes.{known_name}
use Rattle.input_graph.specs.Waits.{known_edges}

-- Both ends of each edge.
abbrev pub ends : List (List ℕ × List ℕ) → List (List ℕ)
ends edges = flat_map (λ edge. edge.0 ∷ edge.1 ∷ []) edges

-- The nodes that have a line of their own, then the ends of the edges.
abbrev pub known_nodes : (steps : List (List ℕ)) → NamedGraph → List (List ℕ)
known_nodes steps graph = map (λ node. known_name steps node) graph.nodes ++ ends (known_edges steps graph)

-- A node of the graph has that name.
abbrev pub has_node : (steps : List (List ℕ)) → NamedGraph → (name : List ℕ) → Bool
has_node steps graph name = list_any (bytes_eq name) (known_nodes steps graph)

-- The number of the first step whose name no node has; none where each step has a node.
abbrev pub first_without_node : (steps : List (List ℕ)) → NamedGraph → Option ℕ
first_without_node steps graph = position_from (λ name. not (has_node steps graph name)) 0 steps
