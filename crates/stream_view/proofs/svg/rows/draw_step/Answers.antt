use Rattle.stream_view.specs.Axes.{axis_in}
use Rattle.stream_view.proofs.Growing.{on_ok}
use Rattle.stream_view.proofs.Parts.{step_written}
use Rattle.stream_view.proofs.svg.rows.draw_step.Goals as goal

pub returns : goal.returns
returns g c =
    let bar = c.place_of-bar in
    on_ok c.draw_after_bar.result
    (λ after_bar. step_written (axis_in c.args.scale) c.args.picture.now.time_range c.args.step.now bar.result.left bar.result.width bar.result.top _ _ _ _ _
    after_bar.0 bar.ensures.left bar.ensures.width c.in_ok-draw_begin.ensures c.in_ok-draw_before_bar.ensures c.in_ok-draw_bar.ensures after_bar.1)
    c.draw_after_bar.ensures
