-- The waits of all steps of a plan.
use Rattle.std.specs.Prelude.{◌≡◌, ◌<◌, ◌≤◌, ℕ, List, length, map, Some, slice_get}
use Rattle.std.specs.List.{sum_by}
use Rattle.std.specs.declared.alloc.Global.{Global}
use Rattle.std.specs.declared.vec.Vec.{Vec}
use Rattle.input_graph.specs.NamedGraph.{NamedGraph}
use Rattle.input_graph.specs.Waits.{AreWaits, known_edges}

-- The most waits of a plan.
abbrev pub max_waits : ℕ
max_waits = 1000000

-- The lists in vectors.
abbrev pub lists_in : List (Vec ℕ Global) → List (List ℕ)
lists_in vectors = map (λ vector. vector.items) vectors

-- The waits of the first steps along edges: an item for each, by number.
abbrev pub AreFirstWaits : (steps : List (List ℕ)) → (edges : List (List ℕ × List ℕ)) → (lists : List (List ℕ)) → Type 0
AreFirstWaits steps edges lists = (step : ℕ) (waits : List ℕ) → slice_get lists step ≡ Some waits → AreWaits steps edges step waits

-- The waits of all steps along edges, of which there are not too many.
pub record AreWaitsAlong (steps : List (List ℕ)) (edges : List (List ℕ × List ℕ)) (lists : List (List ℕ)) : Type 0 where
  pub each : length lists ≡ length steps
  pub waits : AreFirstWaits steps edges lists
  pub few : sum_by length lists ≤ max_waits

-- The first steps have too many waits along edges.
pub record AreTooMany (steps : List (List ℕ)) (edges : List (List ℕ × List ℕ)) : Type 0 where
  pub lists : List (List ℕ)
  pub first : length lists ≤ length steps
  pub waits : AreFirstWaits steps edges lists
  pub many : max_waits < sum_by length lists

-- The waits of all steps, and that the steps have too many: along the edges of the graph.
abbrev pub AreAllWaits : (steps : List (List ℕ)) → (graph : NamedGraph) → (lists : List (List ℕ)) → Type 0
AreAllWaits steps graph lists = AreWaitsAlong steps (known_edges steps graph) lists

abbrev pub HasTooManyWaits : (steps : List (List ℕ)) → (graph : NamedGraph) → Type 0
HasTooManyWaits steps graph = AreTooMany steps (known_edges steps graph)
