use Rattle.std.proofs.Common.{◌≡◌, ◌++◌, drop}
use Rattle.stream_record_cli.specs.StepNames.{step_nodes}
use Rattle.stream_record_cli.proofs.command.step_names.step_nodes.Given as goal

abbrev pub invariant-loop-place : goal.invariant-loop-place
invariant-loop-place l = l.nodes.items ++ step_nodes (drop l.place l.plan.changes) ≡ step_nodes l.plan.changes
