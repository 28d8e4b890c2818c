use Rattle.stream_view.specs.Markup.{title_parts}
use Rattle.stream_view.proofs.Growing.{on_ok}
use Rattle.stream_view.proofs.Parts.{parts_sent}
use Rattle.stream_view.proofs.svg.rows.draw_begin.Goals as goal

pub returns : goal.returns
returns g c =
    on_ok c.send.result
    (λ sent. parts_sent (title_parts c.args.step.now) c.new-markup.result.parts.items c.begin_row.new.markup.parts.items _ _ c.new-markup.ensures
    (c.begin_row.ensures sent.0).1 sent.1)
    c.send.ensures
