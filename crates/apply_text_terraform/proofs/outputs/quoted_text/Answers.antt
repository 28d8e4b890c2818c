use Rattle.std.proofs.Common.{◌≡◌, IfOk, ap, ◌∙◌, subst}
use Rattle.std.specs.String.{string_vec}
use Rattle.apply_text_terraform.proofs.Texts.{printed_text}
use Rattle.apply_text_terraform.proofs.outputs.quoted_text.Goals as goal

pub returns : goal.returns
returns c =
    let same : string_vec c.unwrap.result ≡ c.into_inner.result = subst (λ r. IfOk r (λ t. string_vec t ≡ c.into_inner.result)) c.unwrap.ensures c.from_utf8.ensures.ok in
    ap (λ v. v.items) same ∙ printed_text _ _ _ _ _ (c.in_ok-string.ensures.room.0 ∙ c.new-out.ensures.before ∙ c.new.ensures.items) c.new-out.ensures.tokens c.in_ok-string.ensures.ok c.into_inner.ensures.items
