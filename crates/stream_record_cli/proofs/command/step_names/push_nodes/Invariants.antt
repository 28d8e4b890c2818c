use Rattle.std.proofs.Common.{◌≡◌, ◌++◌, drop}
use Rattle.stream_record_cli.specs.StepNames.{nodes_from, nodes_of_change}
use Rattle.stream_record_cli.proofs.command.step_names.push_nodes.Given as goal

abbrev pub invariant-loop-kind : goal.invariant-loop-kind
invariant-loop-kind l =
    l.nodes.items ++ nodes_from l.change l.follows (drop l.kind-index l.change.steps) ≡ l.initial.nodes.items ++ nodes_of_change l.change
