use Rattle.std.proofs.Common.{◌∙◌}
use Rattle.std.proofs.lemmas.Result.{IfOk-weaker}
use Rattle.apply_text_terraform.proofs.Progress.{middle_is}
use Rattle.apply_text_terraform.proofs.cached_parts.progress_template.plain_middle.Goals as goal

pub returns : goal.returns
returns c = IfOk-weaker c.format.result _ _ (λ middle is. middle_is _ c.as_str-resource.result.now c.new.result.action.now c.args.change.now c.args.step is (c.as_str-resource.ensures.value ∙ c.in_ok-resource.ensures) c.new.ensures.action) c.format.ensures.ok
