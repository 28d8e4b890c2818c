use Rattle.std.proofs.Common.{◌++◌, ◌/◌, ◌%◌, codes, decimal, ap, ◌∙◌}
use Rattle.std.proofs.lemmas.Result.{on_ok_weaker}
use Rattle.apply_text.specs.CachedParts.{unterminated_date, time_of_day}
use Rattle.apply_text.specs.Elapsed.{elapsed_of}
use Rattle.apply_text.proofs.cached_parts.step_texts.StepTexts.put_line.Goals as goal

pub returns : goal.returns
returns c =
    let pieces = c.args.self.now.pieces in
    let front = pieces.front ++ (elapsed_of c.args.seconds ++ codes " elapsed]\",\"@module\":\"terraform.ui\",\"@timestamp\":") in
    let time = unterminated_date (c.args.timestamp / 86400) ++ time_of_day (c.args.timestamp % 86400) in
    let back = pieces.middle ++ (decimal c.args.seconds ++ pieces.back) in
    let first = c.in_ok-push_front.ensures ∙ ap (λ s. s ++ front) c.clear.ensures.bytes in
    let then = c.in_ok-push_second.ensures ∙ ap (λ s. s ++ time) first in
    on_ok_weaker c.push_back.result (λ e. e ∙ ap (λ s. s ++ back) then) c.push_back.ensures
