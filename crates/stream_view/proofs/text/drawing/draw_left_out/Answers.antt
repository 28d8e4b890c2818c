use Rattle.std.proofs.Common.{◌+◌, ◌∙◌, subst, sym}
use Rattle.stream_view.specs.Growth.{lines_in}
use Rattle.stream_view.specs.LeftOut.{IsLeftOutAs, left_out_shown}
use Rattle.stream_view.specs.declared.text.line_buffer.Style.{Style}
use Rattle.stream_view.proofs.Growing.{on_ok}
use Rattle.stream_view.proofs.Sent.{left_out_written}
use Rattle.stream_view.proofs.text.drawing.draw_left_out.Goals as goal

pub returns : goal.returns
returns g c =
    let line_buffer = c.push_left_out.new.line_buffer in
    let rows = c.args.picture.now.rows in
    let indent = c.args.chart.now.action + 1 in
    on_ok c.send.result
    (λ sent. left_out_written c.args.style indent rows _ _ (lines_in line_buffer) line_buffer.style (c.push_left_out.ensures.style ∙ c.new-line_buffer.ensures.style) sent.1 sent.2
    (subst (λ (s : Style). IsLeftOutAs s.width indent (left_out_shown rows) (lines_in line_buffer)) (sym c.push_left_out.ensures.style)
    (c.push_left_out.ensures.listed c.new-line_buffer.ensures.empty sent.0)))
    c.send.ensures
