use Rattle.std.proofs.Common.{◌≡◌, ◌++◌, drop, map}
use Rattle.std.specs.List.{filter_map}
use Rattle.stream_record_script.specs.Outputs.{unless_told}
use Rattle.stream_record_script.proofs.outputs.script_outputs.Given as goal

abbrev pub invariant-loop-output : goal.invariant-loop-output
invariant-loop-output l =
    l.outputs.items ++ filter_map (unless_told l.fn.told) (map (λ output. output.now) (drop l.output-index l.known))
    ≡ filter_map (unless_told l.fn.told) (map (λ output. output.now) l.known)
