use Rattle.std.proofs.Common.{ap, ◌∙◌}
use Rattle.apply_text.specs.HookLines.{hook_front}
use Rattle.apply_text_terraform.specs.Escapes.{escaped}
use Rattle.apply_text_terraform.proofs.HookLines.{pieces_of}
use Rattle.apply_text_terraform.proofs.cached_parts.hook_template.HookTemplateLineTemplate.new.Goals as goal

pub invariant_of-result : goal.invariant_of-result
invariant_of-result c =
    let texts = c.new-2.ensures in
    pieces_of c.new-2.result c.args.change.now c.args.step (texts.step ∙ c.in_ok-fill.ensures)
    (texts.front ∙ c.in_ok-front.ensures ∙ ap escaped (c.as_str.ensures.value ∙ c.in_ok-opened.ensures ∙ ap hook_front c.address.ensures))
    (texts.middle ∙ c.in_ok-middle.ensures ∙ ap escaped (c.as_str-2.ensures.value ∙ c.in_ok-whole.ensures)) (texts.back ∙ c.in_ok-back.ensures)
