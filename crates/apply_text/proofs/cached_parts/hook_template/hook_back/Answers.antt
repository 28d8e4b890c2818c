use Rattle.std.proofs.Common.{◌++◌, codes, ap, ◌∙◌}
use Rattle.apply_text.proofs.HookLines.{back_is}
use Rattle.apply_text.proofs.cached_parts.hook_template.hook_back.Goals as goal

pub returns : goal.returns
returns c =
    let begun = c.in_ok-push_str.ensures.bytes ∙ ap (λ s. s ++ codes ",") c.clear.ensures.bytes in
    back_is _ _ _ c.args.change.now begun c.in_ok-back.ensures c.in_ok-push_str-2.ensures.bytes
