use Rattle.std.proofs.Common.{◌∙◌, subst}
use Rattle.stream_view.specs.Growth.{lines_in}
use Rattle.stream_view.specs.Texts.{IsHeadedBy, heading_characters}
use Rattle.stream_view.specs.declared.text.line_buffer.Style.{Style}
use Rattle.stream_view.proofs.Growing.{headed_more, on_ok}
use Rattle.stream_view.proofs.Sent.{head_buffer_written}
use Rattle.stream_view.proofs.text.drawing.draw_head.Goals as goal

pub returns : goal.returns
returns g c =
    let style = c.push_axis.ensures.style ∙ c.push_head.ensures.style ∙ c.new-line_buffer.ensures.style in
    let all = c.push_axis.new.line_buffer in
    let heading = heading_characters c.args.picture.now in
    on_ok c.send.result
    (λ sent.
    let more = c.push_axis.ensures.more sent.0 in
    let headed = headed_more c.new-line_buffer.result.style.width heading (lines_in c.push_head.new.line_buffer) (lines_in all)
    (c.push_head.ensures.headed c.new-line_buffer.ensures.empty more.0) more.1 in
    head_buffer_written c.args.style c.args.picture.now _ _ (lines_in all) all.style style sent.1 sent.2
    (subst (λ (s : Style). IsHeadedBy s.width heading (lines_in all)) c.new-line_buffer.ensures.style headed))
    c.send.ensures
