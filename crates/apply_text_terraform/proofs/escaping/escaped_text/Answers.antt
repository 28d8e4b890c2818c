use Rattle.std.proofs.Common.{◌≡◌, ◌++◌, IfOk, ap, ◌∙◌, subst, sym}
use Rattle.std.specs.String.{string_vec}
use Rattle.std.specs.Str.{IsUtf8}
use Rattle.apply_text_terraform.specs.Escapes.{escaped}
use Rattle.apply_text_terraform.proofs.Utf8.{still_utf8}
use Rattle.apply_text_terraform.proofs.escaping.escaped_text.Goals as goal

pub unwrap-requires : goal.unwrap-requires
unwrap-requires c =
    let escaped_front = c.as_bytes.result.now in
    let room = c.in_ok-reserve.ensures.items ∙ c.clear.ensures.items in
    c.from_utf8.ensures.succeeds (subst IsUtf8 (sym (c.in_ok-push_escaped.ensures.ok ∙ ap (λ before. before ++ escaped escaped_front) room)) (still_utf8 escaped_front c.as_bytes.ensures.utf8))

pub returns : goal.returns
returns c =
    let escaped_front = c.as_bytes.result.now in
    let room = c.in_ok-reserve.ensures.items ∙ c.clear.ensures.items in
    let same : string_vec c.unwrap.result ≡ c.push_escaped.new.lines = subst (λ r. IfOk r (λ t. string_vec t ≡ c.push_escaped.new.lines)) c.unwrap.ensures c.from_utf8.ensures.ok in
    ap (λ v. v.items) same ∙ c.in_ok-push_escaped.ensures.ok ∙ ap (λ before. before ++ escaped escaped_front) room ∙ ap escaped c.as_bytes.ensures.value
