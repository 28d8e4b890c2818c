use Rattle.stream_view.proofs.Growing.{on_ok}
use Rattle.stream_view.proofs.Parts.{head_written}
use Rattle.stream_view.proofs.svg.drawing.draw_head.Goals as goal

pub returns : goal.returns
returns g c =
    on_ok c.send.result
    (λ sent.
    let styled = c.push_style.ensures.1 sent.0 in
    let titled = c.push_title.ensures styled.0 in
    let opened = c.push_opening.ensures.1 titled.0 in
    head_written c.args.picture.now _ _ c.in_ok-what.what c.push_opening.ensures.0 c.push_style.ensures.0 c.new-markup.result.parts.items
    c.push_opening.new.markup.parts.items c.push_title.new.markup.parts.items c.push_style.new.markup.parts.items
    (c.in_ok-what.ensures _ c.heading.ensures) c.new-markup.ensures opened.1 titled.1 styled.1 sent.1)
    c.send.ensures
