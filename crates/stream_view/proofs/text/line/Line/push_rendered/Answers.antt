use Rattle.std.proofs.Common.{◌∙◌, [], ◌∷◌, ◌++◌, ap, ap₂}
use Rattle.stream_view.specs.Lines.{with_characters}
use Rattle.stream_view.specs.declared.text.line_piece.LinePiece.TheVariants as line_piece
use Rattle.stream_view.proofs.text.line.Line.push_rendered.Goals as goal

pub returns-clause-pieces : goal.returns-clause-pieces
returns-clause-pieces c =
    λ whole.
    let ended = c.end.ensures.pieces whole in
    let all = c.push_all.ensures.pieces ended.0 in
    let begun = c.begin.ensures.pieces all.0 in (
      begun.0,
      ended.1 ∙ ap (λ ps. ps ++ line_piece.End ∷ [])
          (all.1 ∙ ap₂ (λ w ps. with_characters w ps c.args.characters.now) c.begin.ensures.width begun.1),
    )
