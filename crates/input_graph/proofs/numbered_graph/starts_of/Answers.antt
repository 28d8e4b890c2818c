use Rattle.input_graph.specs.Targets.{texts}
use Rattle.input_graph.proofs.Numbering.{joined_extends, one_start, pushed_length, stored_name}
use Rattle.input_graph.proofs.numbered_graph.starts_of.Goals as goal

pub loop-step-preserved : goal.loop-step-preserved
loop-step-preserved c = (
  one_start c.args.nodes.now (texts c.loop-step.names.keys) (texts c.insert_full.new.self.keys) c.loop-step.starts.items c.push.new.self.items c.loop-step.step c.in_ok-number.number c.name.result.now
      c.loop-step.invariant (joined_extends c.name.result c.loop-step.names.keys c.insert_full.new.self.keys c.in_ok-number.ensures.keys) c.name.ensures
      (stored_name c.name.result c.insert_full.new.self.keys c.in_ok-number.number c.in_ok-number.ensures.stored) c.in_ok-push.ensures.items,
  pushed_length c.loop-step.starts.items c.push.new.self.items c.in_ok-number.number c.loop-step.step c.loop-step.invariant.1 c.in_ok-push.ensures.items,
)
