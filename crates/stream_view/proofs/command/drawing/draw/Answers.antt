use Rattle.std.proofs.Common.{◌∙◌, ap, sym}
use Rattle.stream_view.proofs.DrawnStreams.{json_drawn, markdown_drawn, picture_written, svg_drawn, text_drawn}
use Rattle.stream_view.proofs.command.drawing.draw.Goals as goal
use Rattle.stream_view.proofs.command.drawing.draw.Goals.{in-Text, in-Svg, in-Json, in-Markdown}

pub returns-in-Ok-drawn-clause-rows : goal.returns-in-Ok-drawn-clause-rows
returns-in-Ok-drawn-clause-rows g c = record {
  picture = c.in-Ok.picture;
  is_read = c.in-Ok.ensures.timeline;
  offset = c.in-Ok.ensures.lines_before;
  time_range = c.in-Ok.ensures.time_range;
  numbers = c.in-Ok.ensures.numbers;
  rows = c.in-Ok.ensures.rows;
  drawn = elim c.match-form.branch [
    | in-Text w ↦ text_drawn c.args.form w.in-Text.width w.in-Text.colour c.args.is_colour_wanted c.in-Ok.picture _ _ _ w.is_on.result
        w.draw_text-drawn.result w.in-Text.is w.is_on.ensures (sym w.drawn-is ∙ c.in-Ok-drawn.is) (ap g.W.Write.contents w.out-is)
        w.draw_text-drawn.ensures.rows
    | in-Svg w ↦ svg_drawn c.args.form c.args.is_colour_wanted c.in-Ok.picture _ _ _ w.draw_svg-drawn.result w.in-Svg.is
        (sym w.drawn-is ∙ c.in-Ok-drawn.is) (ap g.W.Write.contents w.out-is) w.draw_svg-drawn.ensures.rows
    | in-Json w ↦ json_drawn c.args.form c.args.is_colour_wanted c.in-Ok.picture _ _ _ w.draw_json-drawn.result w.in-Json.is
        (sym w.drawn-is ∙ c.in-Ok-drawn.is) (ap g.W.Write.contents w.out-is) w.draw_json-drawn.ensures
    | in-Markdown w ↦ markdown_drawn c.args.form c.args.is_colour_wanted c.in-Ok.picture _ _ _ w.draw_markdown-drawn.result w.in-Markdown.is
        (sym w.drawn-is ∙ c.in-Ok-drawn.is) (ap g.W.Write.contents w.out-is) w.draw_markdown-drawn.ensures
  ];
}

pub returns-in-Ok-drawn-clause-drawn : goal.returns-in-Ok-drawn-clause-drawn
returns-in-Ok-drawn-clause-drawn g c =
    let of = returns-in-Ok-drawn-clause-rows g c in
    picture_written c.args.form c.args.is_colour_wanted of.picture _ _ of.drawn
