use Rattle.std.proofs.Common.{◌/◌, ◌%◌, ◌++◌, codes, string_bytes}
use Rattle.apply_text.specs.UtcTimestamp.{two_digits}
use Rattle.apply_text.proofs.CachedTexts.{then_piece}
use Rattle.apply_text.proofs.cached_parts.cached_date.push_time.Goals as goal

pub returns : goal.returns
returns c =
    let r = c.push_two_digits-3.result in
    let s₀ = string_bytes c.args.line.now in
    let s₁ = string_bytes c.push_str.new.self in
    let s₂ = string_bytes c.push_two_digits.new.line in
    let s₃ = string_bytes c.push_str-2.new.self in
    let s₄ = string_bytes c.push_two_digits-2.new.line in
    let s₅ = string_bytes c.push_str-3.new.self in
    let s₆ = string_bytes c.push_two_digits-3.new.line in
    let d₁ = two_digits (c.args.second / 3600) in
    let d₂ = two_digits (c.args.second / 60 % 60) in
    let d₃ = two_digits (c.args.second % 60) in
    let p₅ = codes ":" ++ d₃ in
    let p₄ = d₂ ++ p₅ in
    let p₃ = codes ":" ++ p₄ in
    let p₂ = d₁ ++ p₃ in
    then_piece r s₀ s₁ s₆ (codes "T") p₂ c.in_ok-push_str.ensures.bytes
    (then_piece r s₁ s₂ s₆ d₁ p₃ c.in_ok-push_two_digits.ensures
    (then_piece r s₂ s₃ s₆ (codes ":") p₄ c.in_ok-push_str-2.ensures.bytes
    (then_piece r s₃ s₄ s₆ d₂ p₅ c.in_ok-push_two_digits-2.ensures
    (then_piece r s₄ s₅ s₆ (codes ":") d₃ c.in_ok-push_str-3.ensures.bytes c.push_two_digits-3.ensures))))
