use Rattle.std.proofs.Common.{◌++◌, ◌%◌, ap, ◌∙◌, string_bytes}
use Rattle.std.proofs.lemmas.Result.{on_ok_weaker}
use Rattle.apply_text.specs.CachedParts.{unterminated_date, time_of_day}
use Rattle.apply_text.proofs.CachedTexts.{then_piece}
use Rattle.apply_text.proofs.cached_parts.cached_date.CachedDate.push_second.Goals as goal

pub returns : goal.returns
returns c =
    let time = time_of_day (c.args.seconds % 86400) in
    let line = string_bytes c.args.line.now in
    let date = c.as_str.ensures.value ∙ c.self.invariant ∙ ap unterminated_date (c.self.view_is ∙ c.requires) in
    on_ok_weaker c.push_time.result (λ e. e ∙ ap (λ s. line ++ (s ++ time)) date)
    (then_piece c.push_time.result line (string_bytes c.push_str.new.self) (string_bytes c.push_time.new.line) c.as_str.result.now time c.in_ok-push_str.ensures.bytes c.push_time.ensures)
