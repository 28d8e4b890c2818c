use Rattle.std.proofs.Common.{[], ◌∷◌, ap}
use Rattle.json.specs.Token.{key}
use Rattle.apply_text.proofs.Sending.{one, then_one, then_sends_same, then_text}
use Rattle.apply_text_planning.proofs.outputs.put_output.Goals as goal

pub returns : goal.returns
returns c =
    then_sends_same _ _ _ (ap (λ name. key name ∷ []) c.as_str.ensures) (one c.in_ok-key.ensures)
    (then_one _ _ c.in_ok-begin_object.ensures
    (then_one _ _ c.in_ok-key-2.ensures
    (then_one _ _ c.in_ok-boolean.ensures
    (then_text _ _ _ _ c.output_word.ensures c.in_ok-put_text.ensures
    (one c.end_object.ensures)))))
