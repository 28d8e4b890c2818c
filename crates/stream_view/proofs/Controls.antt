-- What is no control, and what colours add.
use Rattle.std.proofs.Common.{◌≡◌, ℕ, ◌≤◌, ◌<◌, ◌∷◌, [], ◌++◌, List, true, false, ap, refl, arith}
use Rattle.std.specs.Prelude.{◌⊎◌, encode_utf8, filter, is_some}
use Rattle.std.specs.List.{flat_map}
use Rattle.std.proofs.lemmas.Bool.Decides.{nat_tests}
use Rattle.unicode_width.specs.Width.{char_width}
use Rattle.stream_view.specs.Lines.{is_character, line_piece_bytes}
use Rattle.stream_view.specs.declared.text.line_piece.LinePiece.{LinePiece}
use Rattle.stream_view.specs.declared.text.line_piece.LinePiece.TheVariants as line_piece

pub has_width : (character : ℕ) → is_some (char_width false character) ≡ true → (32 ≤ character) × ((character < 127) ⊎ (160 ≤ character))
unfolding char_width
has_width character wide = grind (arith, nat_tests)

pub without_colours : (pieces : List LinePiece) → flat_map (line_piece_bytes false) pieces ≡ flat_map (line_piece_bytes true) (filter is_character pieces)
without_colours [] = refl
without_colours (line_piece.Character character ∷ pieces) = ap (λ bytes. encode_utf8 character ++ bytes) (without_colours pieces)
without_colours (line_piece.Begin rendition ∷ pieces) = without_colours pieces
without_colours (line_piece.End ∷ pieces) = without_colours pieces
