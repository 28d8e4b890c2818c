use Rattle.std.proofs.Common.{◌++◌, codes, string_bytes}
use Rattle.apply_text.proofs.CachedTexts.{appended, then_piece}
use Rattle.apply_text.proofs.cached_parts.step_texts.push_id.Goals as goal

pub returns-in_ok-push_str-in-Some-2 : goal.returns-in_ok-push_str-in-Some-2
returns-in_ok-push_str-in-Some-2 c =
    let r = c.push_str-in-Some-2.result in
    let s₀ = string_bytes c.args.line.now in
    let s₁ = string_bytes c.push_str.new.self in
    let s₂ = string_bytes c.push_str-in-Some.new.self in
    let s₃ = string_bytes c.push_str-in-Some-2.new.self in
    let id = c.in-Some.id.now in
    rw c.in-Some.is
    (then_piece r s₀ s₁ s₃ (codes ",\"id_key\":\"id\",\"id_value\":\"") (id ++ codes "\"") c.in_ok-push_str-in-Some.ensures.bytes
    (then_piece r s₁ s₂ s₃ id (codes "\"") c.in_ok-push_str-in-Some-2.ensures.bytes (appended r s₂ s₃ (codes "\"") c.push_str-in-Some-2.ensures.bytes)))
