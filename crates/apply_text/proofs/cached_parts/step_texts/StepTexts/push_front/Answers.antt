use Rattle.std.proofs.Common.{◌++◌, codes, ap, ◌∙◌, string_bytes}
use Rattle.apply_text.specs.CachedParts.{CachedPieces}
use Rattle.apply_text.specs.Elapsed.{elapsed_of}
use Rattle.apply_text.proofs.CachedTexts.{appended, then_piece}
use Rattle.apply_text.proofs.cached_parts.step_texts.StepTexts.push_front.Goals as goal

pub returns : goal.returns
returns c =
    let r = c.push_str-2.result in
    let s₀ = string_bytes c.args.line.now in
    let s₁ = string_bytes c.push_str.new.self in
    let s₂ = string_bytes c.push_elapsed.new.line in
    let s₃ = string_bytes c.push_str-2.new.self in
    let end = codes " elapsed]\",\"@module\":\"terraform.ui\",\"@timestamp\":" in
    let front = c.in_ok-push_str.ensures.bytes ∙ ap (λ f. s₀ ++ f) (c.as_str.ensures.value ∙ ap (λ (cached : CachedPieces). cached.pieces.front) c.self.view_is) in
    then_piece r s₀ s₁ s₃ c.args.self.now.pieces.front (elapsed_of c.args.seconds ++ end) front
    (then_piece r s₁ s₂ s₃ (elapsed_of c.args.seconds) end c.in_ok-push_elapsed.ensures (appended r s₂ s₃ end c.push_str-2.ensures.bytes))
