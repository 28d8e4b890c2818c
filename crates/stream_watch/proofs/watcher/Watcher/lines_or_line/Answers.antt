use Rattle.std.proofs.Common.{ℕ, List, ap, map, string_bytes, sym, ◌∙◌}
use Rattle.stream_watch.specs.State.{looks_of, state_of}
use Rattle.stream_watch.specs.Telling.{lines_or_line_told, text_lines_told}
use Rattle.stream_watch.proofs.RowTellings.{none_listed, told_ok}
use Rattle.stream_watch.proofs.Tellings.{tells_as}
use Rattle.stream_watch.proofs.watcher.Watcher.lines_or_line.Goals as goal

pub returns-in-Some : goal.returns-in-Some
returns-in-Some c =
    let before = c.args.self.now in
    let looks = looks_of before in
    let state = state_of before in
    tells_as before c.text_of_lines.new.self _ _
    (ap (λ (first : List ℕ). text_lines_told looks first (map string_bytes c.in-Some.rest.now) state) c.as_str.ensures.value
    ∙ sym (ap (λ lines. lines_or_line_told looks c.args.line.now (map string_bytes lines) state) c.in-Some.ensures.cases.0))
    c.text_of_lines.ensures

pub returns-in-None : goal.returns-in-None
returns-in-None c =
    let before = c.args.self.now in
    told_ok c.passed.result before c.passed.new.self _ _
    (ap (λ lines. lines_or_line_told (looks_of before) c.args.line.now (map string_bytes lines) (state_of before)) (none_listed c.args.lines.now c.in-None.ensures.cases))
    c.passed.ensures
