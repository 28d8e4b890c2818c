use Rattle.std.proofs.Common.{sym, ap, ◌∙◌}
use Rattle.apply_model.specs.declared.plan.key.Key.TheVariants.{Name}
use Rattle.apply_address.specs.KeyTexts.{key_of}
use Rattle.apply_address.proofs.key_text.KeyText.to_key.Goals as goal

pub returns-in_ok-new-in-Quoted : goal.returns-in_ok-new-in-Quoted
returns-in_ok-new-in-Quoted c =
    ap Name (c.in_ok-new-in-Quoted.ensures ∙ c.as_str.ensures.value ∙ c.in_ok-content-in-Quoted.ensures) ∙ ap key_of (sym c.in-Quoted.is)
