use Rattle.stream_view.specs.Charts.{layout_in}
use Rattle.stream_view.proofs.Growing.{on_ok}
use Rattle.stream_view.proofs.Sent.{inside_written}
use Rattle.stream_view.proofs.markdown.inside.draw_inside.Goals as goal

pub returns : goal.returns
returns g c =
    let rows = c.in_ok-draw_rows.ensures in
    on_ok c.draw_tail.result
    (λ tail. inside_written (layout_in c.in_ok-chart.chart) c.args.picture.now rows.0 _ _ _ _ _ c.in_ok-chart.ensures rows.1 c.in_ok-draw_above.ensures
    rows.2 c.in_ok-draw_left_out.ensures tail) c.draw_tail.ensures
