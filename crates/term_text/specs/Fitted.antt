-- Texts from a stream, with control characters escaped, as characters.
use Rattle.std.specs.Prelude.{ℕ, List}
use Rattle.std.specs.Str.{chars}
use Rattle.term_text.specs.Shown.{shown_text}

-- the characters of the escaped text
abbrev pub shown_characters : List ℕ → List ℕ
shown_characters bytes = chars (shown_text bytes)
