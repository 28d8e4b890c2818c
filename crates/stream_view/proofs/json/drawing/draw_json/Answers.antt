use Rattle.stream_view.proofs.Objects.{json_written}
use Rattle.stream_view.proofs.json.drawing.draw_json.Goals as goal

pub returns : goal.returns
returns g c =
    json_written c.args.picture.now _ _ _ _ _ c.in_ok-draw_figures.ensures c.in_ok-draw_steps.ensures c.in_ok-write_text.ensures c.flush.ensures
