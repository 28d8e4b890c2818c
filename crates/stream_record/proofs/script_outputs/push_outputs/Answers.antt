use Rattle.std.specs.Prelude.{codes}
use Rattle.stream_record.specs.ScriptText.{output_text, outputs_text}
use Rattle.stream_record.proofs.Items.{drop_at, list_ended, list_pushed}
use Rattle.stream_record.proofs.script_outputs.push_outputs.Goals as goal

pub loop-output-preserved : goal.loop-output-preserved
loop-output-preserved c =
    list_pushed (codes ",\"outputs\":{") (codes "}") output_text c.args.outputs.now c.loop-output.output-index c.loop-output.later
    (outputs_text c.args.outputs.now) _ _ c.loop-output.text c.push_opening.new.text c.push_output.new.text
    (drop_at _ _ _ c.loop-output-test.true c.output-item.is) c.loop-output.invariant c.push_opening.ensures c.push_output.ensures

pub returns : goal.returns
returns c =
    list_ended (codes ",\"outputs\":{") (codes "}") output_text c.args.outputs.now c.loop-output.output-index c.loop-output.later
    (outputs_text c.args.outputs.now) _ c.loop-output.text c.push_closing.new.text
    c.loop-output-test.false c.loop-output.invariant c.push_closing.ensures
