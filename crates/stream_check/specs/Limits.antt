-- Limits of reading.
use Rattle.std.specs.Prelude.{ℕ}

-- the greatest number of lines
abbrev pub max_lines : ℕ
max_lines = 4294967296
