use Rattle.std.proofs.Common.{codes, ◌∷◌, ap, ◌∙◌}
use Rattle.json.specs.Token.{begin_object, key}
use Rattle.apply_text.proofs.Sending.{one, sends_same, then, then_one}
use Rattle.apply_text_planning.specs.Sending.{output_tokens}
use Rattle.apply_text_planning.proofs.OutputTokens.{all_written, members_are, more_written}
use Rattle.apply_text_planning.proofs.outputs.put_outputs.Goals as goal

pub loop-output-preserved : goal.loop-output-preserved
loop-output-preserved c = record {
  written = more_written _ _ _ c.args.outputs.now c.loop-output.output-index c.output-item.result c.loop-output-test.true c.output-item.is c.in_ok-put_output.ensures.ok c.loop-output.invariant.written;
  before = c.in_ok-put_output.ensures.before ∙ c.loop-output.invariant.before;
}

pub returns : goal.returns
returns c =
    let outputs = c.args.outputs.now in
    sends_same (ap (λ tokens. key (codes "outputs") ∷ begin_object ∷ tokens) (members_are outputs))
    (then_one _ _ c.in_ok-key.ensures
    (then_one _ _ c.in_ok-begin_object.ensures
    (then (output_tokens outputs) _ (record {
      ok = all_written _ _ outputs c.loop-output.output-index c.loop-output-test.false c.loop-output.invariant.written;
      before = c.loop-output.invariant.before;
    })
    (one c.end_object.ensures))))
