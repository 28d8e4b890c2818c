use Rattle.std.proofs.Common.{[], ◌∷◌, ◌++◌, ap, ◌∙◌, append_assoc}
use Rattle.std.proofs.lemmas.Result.{on_ok_weaker}
use Rattle.apply_text.proofs.CachedTexts.{appended}
use Rattle.apply_text_terraform.specs.Escapes.{escaped}
use Rattle.apply_text_terraform.proofs.escaping.push_parts.Goals as goal

pub returns-clause-ok : goal.returns-clause-ok
returns-clause-ok c =
    let r = c.extend_from_slice.result in
    let old = c.args.lines.now.items in
    let first = c.push_escaped.new.lines.items in
    let new = c.extend_from_slice.new.self.items in
    let text = escaped c.args.text.now in
    let escaped_front = c.in_ok-push_escaped.ensures.ok ∙ ap (λ items. items ++ text) c.in_ok-reserve.ensures.items in
    on_ok_weaker r (λ e. e ∙ ap (λ items. items ++ 10 ∷ []) escaped_front ∙ append_assoc old text (10 ∷ [])) (appended r first new (10 ∷ []) c.extend_from_slice.ensures.items)
