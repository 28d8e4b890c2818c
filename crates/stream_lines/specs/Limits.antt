-- Limits of reading.
use Rattle.std.specs.Prelude.{ℕ}

-- the greatest length of a line in bytes, 64 MiB
abbrev pub max_bytes : ℕ
max_bytes = 67108864
