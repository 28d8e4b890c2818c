use Rattle.std.proofs.Common.{ap, ◌∙◌}
use Rattle.std.proofs.lemmas.Result.{IfOk-weaker}
use Rattle.apply_text.specs.CachedParts.{front_text}
use Rattle.apply_text_terraform.specs.Escapes.{escaped}
use Rattle.apply_text_terraform.proofs.cached_parts.progress_template.front_of.Goals as goal

pub returns : goal.returns
returns c =
    IfOk-weaker c.escaped_text.result _ _
    (λ front is. is ∙ ap escaped (c.as_str.ensures.value ∙ c.in_ok-front.ensures ∙ ap (λ address. front_text address c.args.step) c.address.ensures))
    c.escaped_text.ensures
