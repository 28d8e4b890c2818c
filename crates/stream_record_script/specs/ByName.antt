-- Outputs in a map, for private clauses.
use Rattle.std.specs.Prelude.{◌≡◌, ℕ, List, option_map}
use Rattle.std.specs.Borrow.{Bor}
use Rattle.std.specs.HashMap.{HashMap, get_by}
use Rattle.std.specs.Str.{bytes_eq}
use Rattle.apply_model.specs.declared.details.output.Output.{Output}
use Rattle.stream_record_script.specs.Outputs.{output_named}

-- The map has the first output of each name.
abbrev pub AreByName : {S : Type 0} → HashMap (Bor (List ℕ)) (Bor Output) S → List Output → Type 0
AreByName by_name outputs = (name : List ℕ)
    → option_map (λ output. output.now) (get_by (λ key. bytes_eq name key.now) by_name) ≡ output_named outputs name
