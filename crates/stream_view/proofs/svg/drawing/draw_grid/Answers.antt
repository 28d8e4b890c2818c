use Rattle.stream_view.proofs.Growing.{on_ok}
use Rattle.stream_view.proofs.Parts.{more_markup}
use Rattle.stream_view.proofs.svg.drawing.draw_grid.Goals as goal

pub returns : goal.returns
returns g c =
    on_ok c.send.result (λ sent. more_markup _ _ _ c.push_grid.new.markup.parts.items c.in_ok-draw_bands.ensures sent.1) c.send.ensures
