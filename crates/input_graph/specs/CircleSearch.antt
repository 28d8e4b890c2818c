-- Nodes in the search for a circle, for private clauses.
use Rattle.std.specs.Prelude.{◌≡◌, ℕ, List, Some, slice_get, take}
use Rattle.std.specs.List.{All, Contains}
use Rattle.input_graph.specs.Targets.{targets_of}

-- Each node comes after all nodes to which its edges lead.
abbrev pub AreInOrder : (edges : List (List ℕ × List ℕ)) → (done : List (List ℕ)) → Type 0
AreInOrder edges done = (k : ℕ) (node : List ℕ) → slice_get done k ≡ Some node → All (Contains (take k done)) (targets_of edges node)

-- Between two searches each node that was seen is done.
pub record IsSettled (edges : List (List ℕ × List ℕ)) (seen done : List (List ℕ)) : Type 0 where
  pub in_order : AreInOrder edges done
  pub finished : All (Contains done) seen
