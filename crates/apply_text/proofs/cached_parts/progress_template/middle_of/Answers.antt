use Rattle.std.proofs.lemmas.Result.{IfOk-weaker}
use Rattle.apply_text.proofs.CachedTexts.{middle_is}
use Rattle.apply_text.proofs.cached_parts.progress_template.middle_of.Goals as goal

pub returns : goal.returns
returns c = IfOk-weaker c.format.result _ _ (λ middle is. middle_is c.new.result.action.now _ c.args.step c.new.ensures.action is) c.format.ensures.ok
