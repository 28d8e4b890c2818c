use Rattle.std.proofs.Common.{List, ap, ◌∙◌}
use Rattle.std.proofs.lemmas.Result.{IfOk-weaker}
use Rattle.serde_json.specs.View.{view}
use Rattle.apply_model.specs.Plan.ResourceChange.{ResourceChange}
use Rattle.input_validate.specs.Doubts.{script_doubts}
use Rattle.input_validate.specs.Findings.{reported}
use Rattle.input_validate.proofs.doubts.whole.doubts_against.Goals as goal

pub returns : goal.returns
returns c =
    IfOk-weaker c.script_doubts.result _ _
    (λ f is. is ∙ ap (λ (changes : List ResourceChange). reported (script_doubts c.args.lanes changes (view c.args.script.now))) c.in_ok-planned.ensures)
    c.script_doubts.ensures
