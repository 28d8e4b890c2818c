use Rattle.std.proofs.Common.{◌∙◌}
use Rattle.std.proofs.lemmas.Result.{IfOk-weaker}
use Rattle.apply_text.proofs.CachedTexts.{back_is}
use Rattle.apply_text.proofs.cached_parts.progress_template.back_of.Goals as goal

pub returns : goal.returns
returns c = IfOk-weaker c.format.result _ _ (λ back is. back_is c.as_str-resource.result.now _ c.args.change.now (c.as_str-resource.ensures.value ∙ c.in_ok-resource.ensures) is) c.format.ensures.ok
