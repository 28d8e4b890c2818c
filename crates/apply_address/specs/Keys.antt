-- Instance keys, and how an address writes them.
use Rattle.std.specs.Prelude.{ℕ, ℤ, List, [], ◌++◌, codes, FitsSigned}
use Rattle.std.specs.Int.{w64}
use Rattle.std.specs.Fmt.{signed_decimal}
use Rattle.std.specs.List.{AllByRecursion}
use Rattle.apply_model.specs.declared.plan.key.Key.{Key}
use Rattle.apply_model.specs.declared.plan.key.Key.TheVariants as key
use Rattle.apply_address.specs.Pieces.{Piece, IsPiece, unescaped_text, written_text}

-- A key as an address writes it: none, a number, or a text in pieces.
pub data WrittenKey : Type 0 where
  no_key : WrittenKey
  number_key : ℤ → WrittenKey
  text_key : List Piece → WrittenKey

-- JSON writes the number so: without a plus, without a zero before other digits, and without a
-- minus before a zero.
abbrev pub written_key : WrittenKey → List ℕ
written_key no_key = []
written_key (number_key number) = codes "[" ++ signed_decimal number ++ codes "]"
written_key (text_key pieces) = codes "[\"" ++ written_text pieces ++ codes "\"]"

-- The key is valid: its number fits 64 bits, or its pieces are valid.
abbrev pub IsKey : WrittenKey → Type 0
IsKey no_key = Unit {0}
IsKey (number_key number) = FitsSigned w64 number
IsKey (text_key pieces) = AllByRecursion IsPiece pieces

-- The instance key.
abbrev pub meant_key : WrittenKey → Key
meant_key no_key = key.None
meant_key (number_key number) = key.Number number
meant_key (text_key pieces) = key.Name (unescaped_text pieces)
