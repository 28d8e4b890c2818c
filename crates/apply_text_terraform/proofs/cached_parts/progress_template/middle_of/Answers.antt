use Rattle.std.proofs.Common.{ap, ◌∙◌}
use Rattle.std.proofs.lemmas.Result.{IfOk-weaker}
use Rattle.apply_text_terraform.specs.Escapes.{escaped}
use Rattle.apply_text_terraform.proofs.cached_parts.progress_template.middle_of.Goals as goal

pub returns : goal.returns
returns c = IfOk-weaker c.escaped_text.result _ _ (λ middle is. is ∙ ap escaped (c.as_str.ensures.value ∙ c.in_ok-middle.ensures)) c.escaped_text.ensures
