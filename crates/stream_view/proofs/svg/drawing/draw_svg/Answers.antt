use Rattle.stream_view.proofs.Growing.{on_ok}
use Rattle.stream_view.proofs.svg.drawing.draw_svg.Goals as goal

pub returns-clause-rows : goal.returns-clause-rows
returns-clause-rows g c = c.draw_parts.ensures

pub returns-clause-svg : goal.returns-clause-svg
returns-clause-svg g c = on_ok c.draw_parts.result (λ written. (c.args.picture.now, written)) c.draw_parts.ensures
