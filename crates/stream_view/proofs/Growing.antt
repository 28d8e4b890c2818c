-- Lines and buffers that grow.
use Rattle.std.proofs.Common.{◌≡◌, ◌∙◌, ℕ, ◌≤◌, ◌∷◌, [], ◌++◌, List, Option, Result, Ok, Err, ap, length, replicate, arith}
use Rattle.std.specs.Prelude.{OnOk}
use Rattle.std.proofs.lemmas.Grind.{fold-append}
use Rattle.term_text.specs.Fitting.{without_blanks}
use Rattle.stream_view.specs.Lines.{HasMore, line_with, text_line, with_character, with_characters, with_styled}
use Rattle.stream_view.specs.Texts.{IsHeadedBy}
use Rattle.stream_view.specs.declared.text.rendition.Rendition.{Rendition}
use Rattle.stream_view.specs.declared.text.line_piece.LinePiece.{LinePiece}

-- an `Ok` result of a call implies another statement
pub on_ok : {A E P Q : Type 0} (answer : Result A E) → (P → Q) → OnOk answer P → OnOk answer Q
on_ok (Ok x) f p = f p
on_ok (Err e) f p = tt

-- ---- one character more

pub characters-append : (width : ℕ) (ps : List LinePiece) (cs ds : List ℕ)
    → with_characters width ps (cs ++ ds) ≡ with_characters width (with_characters width ps cs) ds
characters-append width ps cs ds = fold-append (with_character width) ps cs ds

-- ---- heads

pub headed_more : (width : ℕ) (heading : List ℕ) (lines more : List (List LinePiece)) → IsHeadedBy width heading lines → HasMore lines more
    → IsHeadedBy width heading more
headed_more width heading lines more headed grown fits =
    let h = headed fits in
    (h.0 ++ grown.0, grown.1 ∙ ap (λ ls. ls ++ grown.0) h.1)

-- ---- a line with a text

pub line_none : (width indent : ℕ) (rendition : Option Rendition) (text front : List ℕ) (pieces : List LinePiece) → front ≡ without_blanks text → length front ≡ 0
    → pieces ≡ [] → pieces ≡ text_line width indent rendition text
line_none width indent rendition text [] pieces is none empty = empty ∙ ap (line_with width indent rendition) is
line_none width indent rendition text (c ∷ cs) pieces is none empty = absurd (omega (arith, none))

pub line_some : (width indent : ℕ) (rendition : Option Rendition) (text front : List ℕ) (pieces : List LinePiece) → front ≡ without_blanks text → 1 ≤ length front
    → pieces ≡ with_styled width (with_characters width [] (replicate indent 32)) rendition front → pieces ≡ text_line width indent rendition text
line_some width indent rendition text [] pieces is some shows = absurd (omega (arith, some))
line_some width indent rendition text (c ∷ cs) pieces is some shows = shows ∙ ap (line_with width indent rendition) is
