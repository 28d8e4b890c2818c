use Rattle.std.proofs.Common.{◌∙◌, sym, ap}
use Rattle.std.specs.Option.{option_copied}
use Rattle.input_graph.specs.Targets.{texts}
use Rattle.input_graph.proofs.Numbering.{name_at, one_step_of, pushed_length}
use Rattle.input_graph.proofs.numbered_graph.steps_by_number.Goals as goal

pub loop-number-preserved : goal.loop-number-preserved
loop-number-preserved c = (
  one_step_of c.args.nodes.now (texts c.args.names.now.keys) c.loop-number.step_of.items c.push.new.self.items c.loop-number.number c.unwrap-name.result.now.now c.number.result
      c.loop-number.invariant (name_at c.args.names.now.keys c.loop-number.number c.unwrap-name.result.now (sym c.get_index.ensures.key ∙ ap option_copied c.unwrap-name.ensures))
      c.number.ensures.value c.in_ok-push.ensures.items,
  pushed_length c.loop-number.step_of.items c.push.new.self.items c.number.result c.loop-number.number c.loop-number.invariant.1 c.in_ok-push.ensures.items,
)
