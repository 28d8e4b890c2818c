use Rattle.std.proofs.Common.{◌≡◌, ℕ, List, drop}
use Rattle.std.specs.Prelude.{option_map}
use Rattle.std.specs.HashMap.{get_by}
use Rattle.std.specs.Str.{bytes_eq}
use Rattle.stream_record_script.specs.Outputs.{output_named}
use Rattle.stream_record_script.proofs.told_outputs.ToldOutputs.new.Given as goal

-- the map has the first of each name, of the outputs from the current one on
abbrev pub invariant-loop-number : goal.invariant-loop-number
invariant-loop-number l = (name : List ℕ)
    → option_map (λ output. output.now) (get_by (λ key. bytes_eq name key.now) l.by_name) ≡ output_named (drop l.number l.outputs) name
