use Rattle.std.proofs.Common.{ap, map, string_bytes, ◌∙◌}
use Rattle.term_text.specs.LineTexts.{text_lines}
use Rattle.stream_watch.specs.State.{looks_of, state_of}
use Rattle.stream_watch.specs.Telling.{lines_or_line_told}
use Rattle.stream_watch.proofs.RowTellings.{told_ok}
use Rattle.stream_watch.proofs.watcher.Watcher.other.Goals as goal

pub returns : goal.returns
returns c =
    let before = c.args.self.now in
    told_ok c.lines_or_line.result before c.lines_or_line.new.self _ _
    (ap (λ lines. lines_or_line_told (looks_of before) c.args.line.now lines (state_of before))
    (ap (map string_bytes) c.as_slice.ensures.value ∙ c.in_ok-lines.ensures ∙ ap text_lines (c.as_bytes.ensures.value ∙ c.text_or_nothing.ensures)))
    c.lines_or_line.ensures
