use Rattle.stream_record_cli.proofs.StepNames.{nodes_pushed}
use Rattle.stream_record_cli.proofs.command.step_names.step_nodes.Goals as goal

pub loop-place-preserved : goal.loop-place-preserved
loop-place-preserved c =
    nodes_pushed c.args.plan.now.changes c.loop-place.place c.loop-place.nodes.items c.push_nodes.new.nodes.items _ c.change.result.now
    c.change.ensures c.in_ok-push_nodes.ensures c.loop-place.invariant
