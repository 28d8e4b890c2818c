-- The numbers of the nodes that a step reaches, for private clauses.
use Rattle.std.specs.Prelude.{◌≡◌, ℕ, All, List, Some, slice_get}
use Rattle.std.specs.List.{Contains}
use Rattle.input_graph.specs.Targets.{texts}
use Rattle.input_graph.specs.Waits.{Reaches}
use Rattle.input_graph.specs.declared.numbered_graph.NumberedGraph.{NumberedGraph}

-- The numbers are those of the nodes that a path reaches from a node.
pub record AreReached (steps : List (List ℕ)) (edges : List (List ℕ × List ℕ)) (names : List (List ℕ)) (start : List ℕ) (found : List ℕ) : Type 0 where
  pub sound : All (λ number. (name : List ℕ) × (slice_get names number ≡ Some name) × Reaches steps edges start name) found
  pub complete : (node : List ℕ) → Reaches steps edges start node → (number : ℕ) × Contains found number × (slice_get names number ≡ Some node)

-- The numbers are those of the nodes that a path reaches from the node with that number.
abbrev pub HasReached : (graph : NumberedGraph) → (number : ℕ) → (found : List ℕ) → Type 0
HasReached graph number found = (start : List ℕ) → slice_get (texts graph.names.keys) number ≡ Some start → AreReached graph.nodes.now graph.edges (texts graph.names.keys) start found
