use Rattle.std.proofs.Common.{ap, ◌∙◌}
use Rattle.apply_text.specs.CachedParts.{front_text}
use Rattle.apply_text.proofs.CachedTexts.{made, pieces_of}
use Rattle.apply_text.proofs.cached_parts.progress_template.ProgressTemplateLineTemplate.new.Goals as goal

pub invariant_of-result : goal.invariant_of-result
invariant_of-result c =
    let texts = c.in_ok-texts.ensures in
    pieces_of c.in_ok-texts.texts c.args.change.now c.args.step (made _ c.new.result _ texts.step c.new.ensures)
    (texts.front.2 ∙ made _ c.progress_front.result texts.front.0 texts.front.1 c.progress_front.ensures ∙ ap (λ address. front_text address c.args.step) c.address.ensures)
    (texts.middle.2 ∙ made _ c.middle_of.result texts.middle.0 texts.middle.1 c.middle_of.ensures)
    (texts.back.2 ∙ made _ c.back_of.result texts.back.0 texts.back.1 c.back_of.ensures)
