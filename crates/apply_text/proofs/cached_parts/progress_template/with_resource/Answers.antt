use Rattle.std.proofs.Common.{◌≡◌, IfOk, ap, sym, ◌∙◌, subst}
use Rattle.std.specs.Str.{IsUtf8}
use Rattle.std.specs.String.{string_vec}
use Rattle.std.proofs.lemmas.Str.{IsUtf8-append, IsUtf8-string_bytes}
use Rattle.apply_text.proofs.CachedTexts.{printed_member, resource_is}
use Rattle.apply_text.proofs.cached_parts.progress_template.with_resource.Goals as goal

pub unwrap-requires : goal.unwrap-requires
unwrap-requires c =
    let after = c.in_ok-put_resource.ensures.before ∙ c.new-out.ensures.before ∙ ap (λ v. v.items) c.into_bytes.ensures.value in
    c.from_utf8.ensures.succeeds (subst IsUtf8 (sym c.into_inner.ensures.items) (IsUtf8-append _ _ (subst IsUtf8 (sym after) (IsUtf8-string_bytes c.args.text)) c.into_inner.ensures.utf8))

pub returns : goal.returns
returns c =
    let same : string_vec c.unwrap.result ≡ c.into_inner.result = subst (λ r. IfOk r (λ t. string_vec t ≡ c.into_inner.result)) c.unwrap.ensures c.from_utf8.ensures.ok in
    resource_is _ _ _ (ap (λ v. v.items) same ∙ printed_member _ _ _ _ _ _ _ (c.in_ok-put_resource.ensures.before ∙ c.new-out.ensures.before ∙ ap (λ v. v.items) c.into_bytes.ensures.value) c.new-out.ensures.tokens c.in_ok-put_resource.ensures.ok c.into_inner.ensures.items)
