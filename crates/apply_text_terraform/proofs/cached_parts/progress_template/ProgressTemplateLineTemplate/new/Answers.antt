use Rattle.std.proofs.Common.{◌∙◌}
use Rattle.apply_text.proofs.CachedTexts.{made}
use Rattle.apply_text_terraform.proofs.Progress.{pieces_of}
use Rattle.apply_text_terraform.proofs.cached_parts.progress_template.ProgressTemplateLineTemplate.new.Goals as goal

pub invariant_of-result : goal.invariant_of-result
invariant_of-result c =
    let texts = c.in_ok-texts.ensures in
    pieces_of c.in_ok-texts.texts c.args.change.now c.args.step (made _ c.new.result _ texts.step c.new.ensures)
    (texts.front.2 ∙ made _ c.front_of.result texts.front.0 texts.front.1 c.front_of.ensures)
    (texts.middle.2 ∙ made _ c.middle_of.result texts.middle.0 texts.middle.1 c.middle_of.ensures)
    (texts.back.2 ∙ made _ c.back_of.result texts.back.0 texts.back.1 c.back_of.ensures)
