use Rattle.std.proofs.Common.{◌++◌, codes, ap, ◌∙◌}
use Rattle.std.proofs.lemmas.Result.{IfOk-weaker}
use Rattle.apply_text.proofs.HookLines.{front_is}
use Rattle.apply_text.proofs.cached_parts.hook_template.hook_front.Goals as goal

pub returns : goal.returns
returns c =
    let begun = c.in_ok-push_str.ensures.bytes ∙ ap (λ s. s ++ codes "{\"@level\":\"info\",\"@message\":") c.clear.ensures.bytes in
    IfOk-weaker c.with_unterminated.result _ _ (λ front is. front_is _ _ c.args.address.now begun is) c.with_unterminated.ensures
