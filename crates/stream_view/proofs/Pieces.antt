-- Lines that grow by a piece, and buffers that grow by a line.
use Rattle.std.proofs.Common.{◌≡◌, ◌∙◌, ℕ, ◌+◌, ◌≤◌, ◌∷◌, [], ◌++◌, List, Bool, true, ap₂, get_or, eqb-true, eq-eqb, arith}
use Rattle.std.specs.Prelude.{◌&&◌, ◌==◌, All, map}
use Rattle.std.specs.List.{list_all, sum_by}
use Rattle.std.proofs.lemmas.List.Elements.{All-map}
use Rattle.std.proofs.lemmas.List.Folds.{list_all-append}
use Rattle.std.proofs.lemmas.List.Sums.{AllPass-from_list_all, sum_by-append}
use Rattle.stream_view.specs.Lines.{IsLine, line_piece_columns}
use Rattle.stream_view.specs.declared.text.line.Line.{Line}
use Rattle.stream_view.specs.declared.text.line_piece.LinePiece.{LinePiece}

pub columns-push : (pieces : List LinePiece) (p : LinePiece) → sum_by line_piece_columns (pieces ++ p ∷ []) ≡ sum_by line_piece_columns pieces + line_piece_columns p
columns-push pieces p = omega (arith, sum_by-append line_piece_columns pieces (p ∷ []))

-- one more that passes
pub passes-push : {X : Type 0} (test : X → Bool) (xs : List X) (x : X) → list_all test xs ≡ true → test x ≡ true → list_all test (xs ++ x ∷ []) ≡ true
passes-push test xs x all one = list_all-append test xs (x ∷ []) ∙ ap₂ (λ b c. b && (c && true)) all one

pub even-push : (lines : List Line) (line : Line) (width : ℕ) → list_all (λ (l : Line). l.width == width) lines ≡ true → line.width ≡ width
    → list_all (λ (l : Line). l.width == width) (lines ++ line ∷ []) ≡ true
even-push lines line width even is = passes-push (λ (l : Line). l.width == width) lines line even (eq-eqb line.width width is)

-- a line that may be so wide is one of at most so many columns
pub line_fine : (line : Line) (width : ℕ) → line.width ≡ width → IsLine width line.pieces.items
line_fine line width is =
    let counted : line.columns ≡ sum_by line_piece_columns line.pieces.items = line.counted in
    let fits : line.columns ≤ line.width = line.fits in
    record { columns = omega (arith, is, counted, fits); no_control = line.no_control }

pub buffer_fine : (lines : List Line) (width : ℕ) → list_all (λ (l : Line). l.width == width) lines ≡ true
    → All (IsLine width) (map (λ (l : Line). l.pieces.items) lines)
buffer_fine lines width even =
    All-map (IsLine width) (λ (l : Line). l.pieces.items) lines (λ k d below.
    line_fine (get_or lines k d) width
    (eqb-true (get_or lines k d).width width (AllPass-from_list_all (λ (l : Line). l.width == width) lines even k d below)))
