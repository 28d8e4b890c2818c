-- The graph of a plan.
use Rattle.std.specs.Prelude.{ℕ, List}

-- The names of the nodes that have a line of their own, and the edges, in the order of the lines.
-- An edge is a pair of names: the first node waits for the second.
pub record NamedGraph : Type 0 where
  pub nodes : List (List ℕ)
  pub edges : List (List ℕ × List ℕ)
