use Rattle.std.proofs.Common.{◌≡◌, ◌∙◌, ◌∷◌, [], ◌-◌, ℕ, ap, length, map, sym, take}
use Rattle.std.proofs.lemmas.List.{length-map}
use Rattle.stream_watch.specs.State.{state_of}
use Rattle.stream_watch.specs.Steps.{step_view}
use Rattle.stream_panel.specs.Panel.{panel_lines, row_lines, shown_rows}
use Rattle.stream_panel.specs.Rows.{more_lines, row_line}
use Rattle.stream_panel.specs.Status.{status_line}
use Rattle.stream_panel.proofs.Panels.{rows_map}
use Rattle.stream_panel.proofs.Parts.{lines_as, lines_then}
use Rattle.stream_panel.proofs.panel.push_panel.Goals as goal

pub returns : goal.returns
unfolding panel_lines
returns c =
    let t0 = c.args.out.now in
    let t1 = c.push_status_line.new.out in
    let t2 = c.push_rows.new.out in
    let t3 = c.push_more.new.out in
    let view = c.args.view in
    let colour = view.has_colour in
    let state = state_of c.args.watcher.now in
    let steps = c.steps_under_way-steps.result.now in
    let same : length steps ≡ length state.steps = sym (length-map steps step_view) ∙ ap length c.steps_under_way-steps.ensures in
    let count = shown_rows view.size (length state.steps) in
    let shown : c.shown_rows-shown.result ≡ count = c.shown_rows-shown.ensures.rows ∙ ap (shown_rows view.size) same in
    let rest : length steps - c.shown_rows-shown.result ≡ length state.steps - count =
    ap (λ (n : ℕ). n - c.shown_rows-shown.result) same ∙ ap (λ (n : ℕ). length state.steps - n) shown in
    let status = status_line view state in
    let rows = row_lines view state in
    let more = more_lines view (length state.steps - count) in
    let placed = lines_as t1 t2 colour (map (λ step. row_line view state (step_view step)) (take c.shown_rows-shown.result steps)) rows
    (ap (λ (n : ℕ). map (λ step. row_line view state (step_view step)) (take n steps)) shown
    ∙ rows_map (row_line view state) step_view count steps state.steps c.steps_under_way-steps.ensures)
    c.push_rows.ensures in
    let last = lines_as t2 t3 colour _ more (ap (more_lines view) rest) c.push_more.ensures in
    lines_then t0 t2 t3 colour (status ∷ rows) more (lines_then t0 t1 t2 colour (status ∷ []) rows c.push_status_line.ensures placed) last
