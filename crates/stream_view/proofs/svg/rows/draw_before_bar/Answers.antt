use Rattle.stream_view.proofs.Growing.{on_ok}
use Rattle.stream_view.proofs.svg.rows.draw_before_bar.Goals as goal

pub returns : goal.returns
returns g c = on_ok c.send.result (λ sent. record { parts = c.push_before_bar.new.markup.parts.items; written = sent.1 }) c.send.ensures
