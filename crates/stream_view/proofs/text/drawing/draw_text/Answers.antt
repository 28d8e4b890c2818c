use Rattle.stream_view.specs.Charts.{layout_in}
use Rattle.stream_view.proofs.Sent.{as_lines, text_written}
use Rattle.stream_view.proofs.text.drawing.draw_text.Goals as goal

pub returns-clause-rows : goal.returns-clause-rows
returns-clause-rows g c =
    let rows = c.in_ok-draw_rows.ensures in
    text_written _ _ (layout_in c.in_ok-chart.chart) c.args.picture.now rows.0 _ _ _ _ _ _ c.in_ok-chart.ensures rows.1 c.in_ok-draw_head.ensures
    rows.2 c.in_ok-draw_left_out.ensures c.in_ok-draw_tail.ensures c.flush.ensures

pub returns-clause-lines : goal.returns-clause-lines
returns-clause-lines g c = as_lines _ _ _ _ _ (returns-clause-rows g c)
