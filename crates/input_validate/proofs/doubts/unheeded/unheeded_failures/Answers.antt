use Rattle.std.proofs.Common.{List, Option, ap, ◌∙◌}
use Rattle.std.proofs.lemmas.Result.{IfOk-weaker}
use Rattle.serde_json.specs.View.{view}
use Rattle.input_validate.specs.declared.findings.name.Name.TheVariants as name
use Rattle.input_validate.specs.Doubts.{unheeded_in_entry}
use Rattle.input_validate.specs.Findings.{reported}
use Rattle.input_validate.specs.ObjectNames.{Named}
use Rattle.input_validate.specs.Rules.{in_items, inside}
use Rattle.input_validate.proofs.doubts.unheeded.unheeded_failures.Goals as goal

pub returns : goal.returns
returns c =
    let d = view c.args.script.now in
    IfOk-weaker c.walk_items_at.result _ _
    (λ f is. is ∙ ap (λ (names : List (Option Named)). reported (inside (in_items (λ number. unheeded_in_entry names)) name.Changes d)) c.in_ok-waited.ensures)
    c.walk_items_at.ensures
