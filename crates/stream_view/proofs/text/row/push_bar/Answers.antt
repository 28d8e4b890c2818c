use Rattle.std.proofs.Common.{◌∙◌, ◌∷◌, [], ◌++◌, ap, ap₂, refl, take, drop}
use Rattle.std.proofs.lemmas.List.{take_rest}
use Rattle.term_text.specs.Fitting.{without_blanks}
use Rattle.stream_view.specs.Lines.{with_characters}
use Rattle.stream_view.specs.Rows.{bar_of, with_bar}
use Rattle.stream_view.specs.declared.text.line_piece.LinePiece.TheVariants as line_piece
use Rattle.stream_view.proofs.Rows.{bar_characters, bar_pushed}
use Rattle.stream_view.proofs.text.row.push_bar.Goals as goal

pub returns-clause-pieces : goal.returns-clause-pieces
returns-clause-pieces c = λ whole.
    let ticks = c.args.ticks.now in
    let bar = c.bar_of-bar in
    let before = c.push_dim.new.line in
    let painted = c.end.new.self in
    let cells = bar_characters bar.result.has_failed bar.result.has_ended bar.result.halves.first bar.result.halves.end c.first_cell-first.result
    c.end_cell-end.result in
    let is5 = c.push_dim-2.ensures.pieces whole in
    let is4 = c.end.ensures.pieces is5.0 in
    let is3 = c.push_to.ensures.pieces is4.0 in
    let is2 = c.begin.ensures.pieces is3.0 in
    let is1 = c.push_dim.ensures.pieces is2.0 in
    let styled = is4.1 ∙ ap (λ ps. ps ++ line_piece.End ∷ []) (is3.1 ∙ ap₂ (λ w ps. with_characters w ps cells) c.begin.ensures.width is2.1) in
    let pushed = bar_pushed c.args.line.now.width before.width painted.width c.args.chart.now.cells c.args.picture.now.time_range c.args.step.now
    c.rendition_of.result ticks c.args.line.now.pieces.items before.pieces.items painted.pieces.items c.push_dim-2.new.line.pieces.items
    bar.result.has_failed bar.result.has_ended bar.result.halves.first bar.result.halves.end c.first_cell-first.result c.end_cell-end.result
    (take c.min.result ticks) cells c.without_blanks.result.now bar.ensures.failed bar.ensures.ended bar.ensures.first bar.ensures.end
    c.first_cell-first.ensures c.end_cell-end.ensures refl (ap (λ n. take n ticks) c.min.ensures)
    (c.without_blanks.ensures ∙ ap without_blanks (take_rest ticks c.min-2.result ∙ ap (λ n. drop n ticks) c.min-2.ensures))
    c.push_dim.ensures.width (c.end.ensures.width ∙ c.push_to.ensures.width ∙ c.begin.ensures.width) is1.1 styled is5.1 in (
      is1.0,
      pushed ∙ ap (λ rendition. with_bar c.args.line.now.width rendition ticks (bar_of c.args.chart.now.cells c.args.picture.now.time_range c.args.step.now)
          c.args.line.now.pieces.items) c.rendition_of.ensures,
    )
