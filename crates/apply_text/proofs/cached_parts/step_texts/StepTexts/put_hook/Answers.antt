use Rattle.std.proofs.Common.{◌++◌, ◌/◌, ◌%◌, codes, ap, ◌∙◌, string_bytes}
use Rattle.std.proofs.lemmas.Result.{on_ok_weaker}
use Rattle.apply_text.specs.CachedParts.{CachedPieces, unterminated_date, time_of_day}
use Rattle.apply_text.specs.HookLines.{lead_text, point_type, seconds_words, seconds_and_id_text, hook_fields_view}
use Rattle.apply_text.specs.Message.{id_suffix}
use Rattle.apply_text.proofs.CachedTexts.{then_piece}
use Rattle.apply_text.proofs.cached_parts.step_texts.StepTexts.put_hook.Goals as goal

pub returns : goal.returns
returns c =
    let pieces = c.args.self.now.pieces in
    let fields = hook_fields_view c.args.fields in
    let r = c.push_type.result in
    let message = pieces.front ++ (lead_text fields.point c.args.step ++ (seconds_words fields.seconds ++ (id_suffix fields.id ++ codes "\",\"@module\":\"terraform.ui\",\"@timestamp\":"))) in
    let time = unterminated_date (c.args.timestamp / 86400) ++ time_of_day (c.args.timestamp % 86400) in
    let end = pieces.back ++ (point_type fields.point ++ codes "\"}\n") in
    let s₁ = string_bytes c.push_second.new.line in
    let s₂ = string_bytes c.push_str.new.self in
    let s₃ = string_bytes c.push_members.new.line in
    let s₄ = string_bytes c.push_type.new.line in
    let first = c.in_ok-push_hook_message.ensures ∙ ap (λ s. s ++ message) c.clear.ensures.bytes in
    let then = c.in_ok-push_second.ensures ∙ ap (λ s. s ++ time) first in
    let middle = c.in_ok-push_str.ensures.bytes ∙ ap (λ m. s₁ ++ m) (c.as_str.ensures.value ∙ ap (λ (cached : CachedPieces). cached.pieces.middle) c.self.view_is) in
    on_ok_weaker r (λ e. e ∙ ap (λ s. s ++ (pieces.middle ++ (seconds_and_id_text fields ++ end))) then)
    (then_piece r s₁ s₂ s₄ pieces.middle (seconds_and_id_text fields ++ end) middle (then_piece r s₂ s₃ s₄ (seconds_and_id_text fields) end c.in_ok-push_members.ensures c.push_type.ensures))
