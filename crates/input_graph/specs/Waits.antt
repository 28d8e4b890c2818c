-- Which steps a step waits for.
use Rattle.std.specs.Prelude.{◌≡◌, ◌≢◌, ◌==◌, ℕ, List, map, false, if◌then◌else◌, Option, Some, None, slice_get}
use Rattle.std.specs.List.{Contains}
use Rattle.std.specs.List.Sorted.{IsStrictlyIncreasing}
use Rattle.input_graph.specs.NamedGraph.{NamedGraph}
use Rattle.input_graph.specs.StepNodes.{is_step, known_name, step_named}

-- The edges of a graph, by the names under which the steps know the nodes.
abbrev pub known_edges : (steps : List (List ℕ)) → NamedGraph → List (List ℕ × List ℕ)
known_edges steps graph = map (λ edge. (known_name steps edge.0, known_name steps edge.1)) graph.edges

-- The nodes that a path of edges reaches from a node, through nodes that are no step.
pub data Reaches (steps : List (List ℕ)) (edges : List (List ℕ × List ℕ)) (start : List ℕ) : List ℕ → Type 0 where
  by_edge : (to : List ℕ) → Contains edges (start, to) → Reaches steps edges start to
  through : (node to : List ℕ) → Reaches steps edges start node → is_step steps node ≡ false → Contains edges (node, to) → Reaches steps edges start to

-- A step waits for each other step that such a path reaches. Each edge is a pair of known names.
pub record WaitsFor (steps : List (List ℕ)) (edges : List (List ℕ × List ℕ)) (step other : ℕ) : Type 0 where
  pub start : List ℕ
  pub node : List ℕ
  pub starts : slice_get steps step ≡ Some start
  pub reaches : Reaches steps edges start node
  pub names : step_named steps node ≡ Some other
  pub differs : other ≢ step

-- The number of a step, unless it is this one.
abbrev pub unless_same : (step : ℕ) → Option ℕ → Option ℕ
unless_same step None = None
unless_same step (Some other) = if other == step then None else Some other

-- The numbers of the steps that a step waits for, in their order, each once.
pub record AreWaits (steps : List (List ℕ)) (edges : List (List ℕ × List ℕ)) (step : ℕ) (waits : List ℕ) : Type 0 where
  pub in_order : IsStrictlyIncreasing waits
  pub sound : (other : ℕ) → Contains waits other → WaitsFor steps edges step other
  pub complete : (other : ℕ) → WaitsFor steps edges step other → Contains waits other
