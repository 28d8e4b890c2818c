-- The sinks of this crate as contracts see them.
use Rattle.std.specs.Prelude.{ℕ, ◌-◌, min, Bool, List, Option, Some, None}

-- a sink in memory: its bytes, the room before it has to grow, the limits for each write and for
-- all writes together (if there is one), and the number of failed writes
pub record InMemory : Type 0 where
  pub taken : List ℕ
  pub room : ℕ
  pub per_write : ℕ
  pub fail_after : Option ℕ
  pub failures : ℕ

-- a sink over a writer: the number of failed writes and flushes, and whether one failed because the
-- reader of the pipe is gone
pub record OverWriter (W : Type 0) : Type 0 where
  pub writer : W
  pub failures : ℕ
  pub is_reader_gone : Bool

-- how many bytes of a slice of `len` bytes are accepted: at most `per_write`, and at most what is
-- left of `fail_after`
abbrev pub max_accepted : (per_write : ℕ) → (fail_after : Option ℕ) → (had len : ℕ) → ℕ
max_accepted per_write None had len = min per_write len
max_accepted per_write (Some fail_after) had len = min (min per_write len) (fail_after - had)
