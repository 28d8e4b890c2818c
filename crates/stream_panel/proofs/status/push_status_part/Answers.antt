use Rattle.std.proofs.Common.{◌∙◌, ◌+◌, ◌-◌, ◌∷◌, [], ◌++◌, ℕ, ap, sym}
use Rattle.stream_panel.specs.Bar.{bar}
use Rattle.stream_panel.specs.Status.{bar_and_status, bar_cells, bold_within, has_bar, status_part}
use Rattle.stream_panel.specs.Stretches.{plain}
use Rattle.stream_panel.proofs.Parts.{part_as, part_then}
use Rattle.stream_panel.proofs.status.push_status_part.Goals as goal

pub returns-then-has_bar : goal.returns-then-has_bar
unfolding status_part
returns-then-has_bar c =
    let t0 = c.args.out.now in
    let t1 = c.push_bar.new.out in
    let t2 = c.push_stretch.new.out in
    let t3 = c.push_fitted.new.out in
    let colour = c.args.has_colour in
    let counts = c.args.counts in
    let running = c.args.running in
    let room = c.args.room in
    let status = c.args.status.now in
    let cells = c.bar_cells-cells.result in
    let drawn = bar counts running cells in
    let blank = plain (32 ∷ []) in
    let said = part_as t2 t3 colour _ (bold_within (room - (cells + 1)) status) (ap (λ (n : ℕ). bold_within n status) c.saturating_sub.ensures) c.push_fitted.ensures in
    let all = part_then t0 t2 t3 colour (drawn ++ blank) (bold_within (room - (cells + 1)) status)
    (part_then t0 t1 t2 colour drawn blank c.push_bar.ensures c.push_stretch.ensures) said in
    let there = sym (ap (has_bar counts) c.bar_cells-cells.ensures) ∙ sym c.has_bar.ensures ∙ c.if-has_bar.true in
    rw there (part_as t0 t3 colour (bar_and_status counts running room cells status) (bar_and_status counts running room (bar_cells room status) status)
    (ap (λ (n : ℕ). bar_and_status counts running room n status) c.bar_cells-cells.ensures) all)

pub returns-else-has_bar : goal.returns-else-has_bar
unfolding status_part
returns-else-has_bar c =
    let there = sym (ap (has_bar c.args.counts) c.bar_cells-cells.ensures) ∙ sym c.has_bar.ensures ∙ c.if-has_bar.false in
    rw there c.push_fitted-else-has_bar.ensures
