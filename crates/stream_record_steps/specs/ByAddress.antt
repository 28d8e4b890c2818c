-- The steps of a plan in a map, for private clauses.
use Rattle.std.specs.Prelude.{◌≡◌, ℕ, List, []}
use Rattle.std.specs.Borrow.{Bor}
use Rattle.std.specs.HashMap.{HashMap, get_by}
use Rattle.std.specs.Option.{option_map_or}
use Rattle.std.specs.Str.{bytes_eq}
use Rattle.std.specs.declared.alloc.Global.{Global}
use Rattle.std.specs.declared.vec.Vec.{Vec}
use Rattle.stream_record_steps.specs.Steps.{PlannedStep, steps_at}

-- The map has the steps at each address.
abbrev pub AreByAddress : {S : Type 0} → HashMap (Bor (List ℕ)) (Vec PlannedStep Global) S → List PlannedStep → Type 0
AreByAddress by_address steps = (address : List ℕ)
    → option_map_or (λ found. found.items) (get_by (λ key. bytes_eq address key.now) by_address) [] ≡ steps_at steps address
