-- The lines of warnings.
use Rattle.std.specs.Prelude.{ℕ, List, ◌++◌, codes}
use Rattle.std.specs.Fmt.{decimal}

-- The line of a warning.
abbrev pub warning : (words : List ℕ) → List ℕ
warning words = codes "applystream: warning: " ++ (words ++ codes "\n")

-- The line of a warning about a line of the stream.
abbrev pub line_warning : (line : ℕ) → (words : List ℕ) → List ℕ
line_warning line words = codes "applystream: warning: line " ++ decimal line ++ (words ++ codes "\n")
