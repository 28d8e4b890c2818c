use Rattle.stream_view.proofs.Parts.{more_markup}
use Rattle.stream_view.proofs.svg.drawing.draw_bands.Goals as goal

pub loop-pair-preserved : goal.loop-pair-preserved
loop-pair-preserved g c = more_markup _ _ _ c.push_band.new.markup.parts.items c.loop-pair.invariant c.in_ok-send.ensures.1
