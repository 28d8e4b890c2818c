use Rattle.std.proofs.Common.{ap, ◌∙◌}
use Rattle.apply_text.specs.HookLines.{hook_front}
use Rattle.apply_text.proofs.HookLines.{pieces_of}
use Rattle.apply_text.proofs.cached_parts.hook_template.HookTemplateLineTemplate.new.Goals as goal

pub invariant_of-result : goal.invariant_of-result
invariant_of-result c =
    let texts = c.new.ensures in
    pieces_of c.new.result c.args.change.now c.args.step (texts.step ∙ c.in_ok-fill.ensures)
    (texts.front ∙ c.in_ok-front.ensures ∙ ap hook_front c.address.ensures) (texts.middle ∙ c.in_ok-middle.ensures) (texts.back ∙ c.in_ok-back.ensures)
