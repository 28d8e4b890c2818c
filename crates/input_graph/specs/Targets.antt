-- The edges of a graph by the node at which they begin, for private clauses.
use Rattle.std.specs.Prelude.{◌≡◌, ℕ, List, [], map, filter}
use Rattle.std.specs.Borrow.{Bor}
use Rattle.std.specs.HashMap.{HashMap, get_by}
use Rattle.std.specs.Option.{option_map_or}
use Rattle.std.specs.Str.{bytes_eq}
use Rattle.std.specs.declared.alloc.Global.{Global}
use Rattle.std.specs.declared.vec.Vec.{Vec}

-- The nodes to which the edges of a node lead, in the order of the edges.
abbrev pub targets_of : List (List ℕ × List ℕ) → (node : List ℕ) → List (List ℕ)
targets_of edges node = map (λ edge. edge.1) (filter (λ edge. bytes_eq node edge.0) edges)

-- The texts that references point to.
abbrev pub texts : List (Bor (List ℕ)) → List (List ℕ)
texts references = map (λ reference. reference.now) references

-- Edges between references.
abbrev pub edge_texts : List (Bor (List ℕ) × Bor (List ℕ)) → List (List ℕ × List ℕ)
edge_texts edges = map (λ edge. (edge.0.now, edge.1.now)) edges

-- The map has the nodes to which the edges of each node lead.
abbrev pub AreTargets : {S : Type 0} → HashMap (Bor (List ℕ)) (Vec (Bor (List ℕ)) Global) S → List (Bor (List ℕ) × Bor (List ℕ)) → Type 0
AreTargets by_node edges = (node : List ℕ) → option_map_or (λ targets. targets.items) (get_by (λ key. bytes_eq node key.now) by_node) []
    ≡ map (λ edge. edge.1) (filter (λ edge. bytes_eq node edge.0.now) edges)
