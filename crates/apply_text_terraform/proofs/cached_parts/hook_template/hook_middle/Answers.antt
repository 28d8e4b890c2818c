use Rattle.std.proofs.Common.{◌++◌, codes, ap, ◌∙◌}
use Rattle.apply_text_terraform.proofs.HookLines.{middle_is}
use Rattle.apply_text_terraform.proofs.cached_parts.hook_template.hook_middle.Goals as goal

pub returns : goal.returns
returns c =
    let begun = c.in_ok-push_str.ensures.bytes ∙ ap (λ s. s ++ codes ".000000Z\",\"hook\":{") c.clear.ensures.bytes in
    middle_is _ _ _ _ _ c.new.result.action.now c.args.change.now c.args.step begun c.in_ok-middle.ensures c.in_ok-push_str-2.ensures.bytes c.in_ok-push_str-3.ensures.bytes c.new.ensures.action c.in_ok-push_str-4.ensures.bytes
