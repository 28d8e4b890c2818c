use Rattle.std.proofs.Common.{◌≡◌, map, take}
use Rattle.apply_plan_terraform.specs.Outputs.{outputs_view}
use Rattle.stream_record_script.specs.Outputs.{known_outputs, unknown_outputs}
use Rattle.stream_record_script.proofs.outputs.split_outputs.Given as goal

abbrev pub invariant-loop-output : goal.invariant-loop-output
invariant-loop-output l = record {
  known : map (λ output. output.now) l.known.items ≡ known_outputs (outputs_view l.plan) (take l.output-index l.outputs);
  unknown : map (λ output. output.now) l.unknown.items ≡ unknown_outputs (outputs_view l.plan) (take l.output-index l.outputs);
}
