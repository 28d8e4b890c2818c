use Rattle.stream_view.specs.Markup.{bar_parts}
use Rattle.stream_view.proofs.Growing.{on_ok}
use Rattle.stream_view.proofs.Parts.{parts_sent}
use Rattle.stream_view.proofs.svg.rows.draw_bar.Goals as goal

pub returns : goal.returns
returns g c =
    on_ok c.send.result
    (λ sent. parts_sent (bar_parts c.args.bar.left c.args.bar.width c.args.bar.top c.args.step.now) c.new-markup.result.parts.items c.push_bar.new.markup.parts.items _ _ c.new-markup.ensures
    (c.push_bar.ensures sent.0).1 sent.1)
    c.send.ensures
