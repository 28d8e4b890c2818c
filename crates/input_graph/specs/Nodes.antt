-- Nodes that were found, each once, for private clauses.
use Rattle.std.specs.Prelude.{ℕ, List, [], ◌∷◌, ◌++◌, fold, if◌then◌else◌}
use Rattle.std.specs.List.{list_any}
use Rattle.std.specs.Str.{bytes_eq}

-- The nodes with one more at the end, unless it is there.
abbrev pub with_node : List (List ℕ) → (node : List ℕ) → List (List ℕ)
with_node nodes node = if list_any (bytes_eq node) nodes then nodes else nodes ++ node ∷ []

abbrev pub with_all : (nodes more : List (List ℕ)) → List (List ℕ)
with_all nodes more = fold with_node nodes more
