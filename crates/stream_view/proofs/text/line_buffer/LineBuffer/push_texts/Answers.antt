use Rattle.std.proofs.Common.{◌∙◌, ◌<◌, ◌≤◌, ◌∷◌, [], List, length, arith, subst}
use Rattle.stream_view.specs.Growth.{HasLines}
use Rattle.stream_view.specs.Lines.{text_line}
use Rattle.stream_view.specs.declared.text.line_piece.LinePiece.{LinePiece}
use Rattle.stream_view.specs.declared.text.line_buffer.Style.{Style}
use Rattle.stream_view.proofs.Heads.{texts_all, texts_more}
use Rattle.stream_view.proofs.text.line_buffer.LineBuffer.push_texts.Goals as goal

pub loop-text-preserved : goal.loop-text-preserved
loop-text-preserved c =
    let below : c.loop-text.text-index < length c.args.texts.now = omega arith in
    let line : Style → List LinePiece = λ style. text_line style.width c.args.indent c.args.rendition c.text-item.result in
    let pushed = subst (λ (style : Style). HasLines c.loop-text.self c.push_text.new.self (line style ∷ [])) c.loop-text.invariant.0 c.push_text.ensures.line in (
      c.push_text.ensures.style ∙ c.loop-text.invariant.0,
      texts_more c.args.self.now c.loop-text.self c.push_text.new.self (text_line c.args.self.now.style.width c.args.indent c.args.rendition)
          c.args.texts.now c.loop-text.text-index c.text-item.result below c.text-item.is c.loop-text.invariant.1 pushed,
    )

pub returns-clause-lines : goal.returns-clause-lines
returns-clause-lines c =
    let ends : length c.args.texts.now ≤ c.loop-text.text-index = omega arith in
    texts_all c.args.self.now c.loop-text.self (text_line c.args.self.now.style.width c.args.indent c.args.rendition) c.args.texts.now c.loop-text.text-index ends
    c.loop-text.invariant.1
