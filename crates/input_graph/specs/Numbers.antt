-- The numbers of steps in a map, for private clauses.
use Rattle.std.specs.Prelude.{◌≡◌, ℕ, List}
use Rattle.std.specs.Borrow.{Bor}
use Rattle.std.specs.HashMap.{HashMap, get_by}
use Rattle.std.specs.Str.{bytes_eq}
use Rattle.input_graph.specs.StepNodes.{step_named}

-- The map has the number of the first step of each name.
abbrev pub AreNumbers : {S : Type 0} → HashMap (Bor (List ℕ)) ℕ S → (steps : List (List ℕ)) → Type 0
AreNumbers numbers steps = (name : List ℕ) → get_by (λ key. bytes_eq name key.now) numbers ≡ step_named steps name
