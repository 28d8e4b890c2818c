use Rattle.std.proofs.Common.{◌∙◌}
use Rattle.stream_view.specs.Growth.{lines_in}
use Rattle.stream_view.proofs.Growing.{on_ok}
use Rattle.stream_view.proofs.Sent.{buffer_written}
use Rattle.stream_view.proofs.markdown.inside.draw_above.Goals as goal

pub returns : goal.returns
returns g c =
    let line_buffer = c.push_axis.new.line_buffer in
    let style = c.push_axis.ensures.style ∙ c.push_overlap.ensures.style ∙ c.new-line_buffer.ensures.style in
    on_ok c.send.result (λ sent. buffer_written c.args.style _ _ (lines_in line_buffer) line_buffer.style style sent.1 sent.2) c.send.ensures
