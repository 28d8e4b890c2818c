-- Characters escaped for markup, and text that holds no markup.
use Rattle.std.specs.Prelude.{◌≡◌, ◌∷◌, ◌==◌, ◌||◌, ◌⊎◌, [], ℕ, List, Bool, All, IsTrue, codes, encode_utf8, if◌then◌else◌}
use Rattle.std.specs.List.{flat_map, list_any}
use Rattle.std.specs.Str.{NoCharPasses, bytes_eq}

-- A character as it stands in markup text and between quotes. Characters with a meaning in markup
-- become entities (XML 1.0, section 4.6).
abbrev pub markup_escaped : ℕ → List ℕ
markup_escaped character =
    if character == 38 then codes "&amp;"
    else if character == 60 then codes "&lt;"
    else if character == 62 then codes "&gt;"
    else if character == 34 then codes "&quot;"
    else encode_utf8 character

-- ---- text that is no markup

abbrev pub is_markup : ℕ → Bool
is_markup character = character == 38 || character == 60

abbrev pub IsEntity : List ℕ → Type 0
IsEntity bytes = IsTrue (list_any (bytes_eq bytes) (codes "&amp;" ∷ codes "&lt;" ∷ codes "&gt;" ∷ codes "&quot;" ∷ []))

-- The bytes are entities and text without `<` and `&`, in any order.
pub record IsMarkupEscaped (bytes : List ℕ) : Type 0 where
  pub pieces : List (List ℕ)
  pub each : All (λ piece. IsEntity piece ⊎ NoCharPasses is_markup piece) pieces
  pub are : bytes ≡ flat_map (λ piece. piece) pieces
