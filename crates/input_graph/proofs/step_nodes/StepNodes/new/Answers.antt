use Rattle.std.proofs.Common.{◌-◌, ◌∙◌, Some, ap, arith, sym}
use Rattle.std.proofs.lemmas.Map.Text.{hash_map_updates_str}
use Rattle.input_graph.specs.declared.step_node.StepNode.{StepNode}
use Rattle.input_graph.specs.StepNodes.{names_of}
use Rattle.input_graph.proofs.Numbered.{named_at, number_more}
use Rattle.input_graph.proofs.step_nodes.StepNodes.new.Goals as goal

pub loop-number-preserved : goal.loop-number-preserved
loop-number-preserved c = λ name.
    let at = named_at c.args.steps.now (c.loop-number.number - 1) c.index-steps-number.result (omega arith) c.index-steps-number.is in
    number_more (names_of c.args.steps.now) c.loop-number.number c.index-steps-number.result.name c.as_str.result.now name _ _ c.loop-number-test.true (omega (arith, at.0)) at.1
    (c.as_str.ensures ∙ ap (λ (s : StepNode). s.name) (sym c.index-steps-number.is)) (c.loop-number.invariant name)
    (hash_map_updates_str c.as_str.result.now c.loop-number.numbers c.insert.new.self (Some (c.loop-number.number - 1)) c.in_ok-insert.ensures.updates name)
