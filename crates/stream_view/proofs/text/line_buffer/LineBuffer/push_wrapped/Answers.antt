use Rattle.std.proofs.Common.{◌≡◌, ◌∙◌, ◌≤◌, ◌∷◌, [], ℕ, List, ap, arith, subst}
use Rattle.std.specs.Prelude.{map}
use Rattle.term_text.specs.Columns.{columns_of}
use Rattle.term_text.proofs.Blanks.{twice}
use Rattle.stream_view.specs.Growth.{HasLines}
use Rattle.stream_view.specs.Lines.{line_with, text_line}
use Rattle.stream_view.specs.declared.text.line_piece.LinePiece.{LinePiece}
use Rattle.stream_view.proofs.text.line_buffer.LineBuffer.push_wrapped.Goals as goal

pub returns-in-Ok-clause-more : goal.returns-in-Ok-clause-more
returns-in-Ok-clause-more c = λ whole.
    let has = c.push_texts.ensures.lines whole in
    (has.0, (map (text_line c.args.self.now.style.width c.args.indent c.args.rendition) c.deref.result.now, has.1))

pub returns-in-Ok-clause-line : goal.returns-in-Ok-clause-line
returns-in-Ok-clause-line c = λ fits.
    let text = c.args.text.now in
    let line : List ℕ → List LinePiece = text_line c.args.self.now.style.width c.args.indent c.args.rendition in
    let room : columns_of text ≤ c.saturating_sub.result = omega (arith, fits, c.saturating_sub.ensures) in
    let one : map line c.deref.result.now ≡ line text ∷ [] =
    ap (map line) (c.deref.ensures.value ∙ c.in-Ok.ensures room)
    ∙ ap (λ (cs : List ℕ). line_with c.args.self.now.style.width c.args.indent c.args.rendition cs ∷ []) (twice text) in
    subst (HasLines c.args.self.now c.push_texts.new.self) one c.push_texts.ensures.lines
