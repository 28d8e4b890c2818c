-- Circles of edges. An edge is a pair of names: the first node waits for the second.
use Rattle.std.specs.Prelude.{◌<◌, ℕ, List}
use Rattle.std.specs.List.{All, Contains}

-- A path of one edge or more leads from a node to another.
pub data Leads (edges : List (List ℕ × List ℕ)) (from : List ℕ) : List ℕ → Type 0 where
  by_one : (to : List ℕ) → Contains edges (from, to) → Leads edges from to
  by_more : (node to : List ℕ) → Leads edges from node → Contains edges (node, to) → Leads edges from to

-- A path leads from the node to itself.
abbrev pub IsOnCircle : (edges : List (List ℕ × List ℕ)) → (node : List ℕ) → Type 0
IsOnCircle edges node = Leads edges node node

abbrev pub HasNoCircle : (edges : List (List ℕ × List ℕ)) → Type 0
HasNoCircle edges = (node : List ℕ) → ¬ IsOnCircle edges node

-- Each node has a rank, which falls along each edge.
pub record AreRanked (edges : List (List ℕ × List ℕ)) : Type 0 where
  pub rank : List ℕ → ℕ
  pub falls : All (λ edge. rank edge.1 < rank edge.0) edges
