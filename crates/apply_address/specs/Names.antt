-- Names of modules, types and resources.
use Rattle.std.specs.Prelude.{◌≡◌, ℕ, ◌<◌, nat_le, ◌==◌, Bool, false, ◌||◌, List, length}
use Rattle.std.specs.List.{AllByRecursion}

-- A byte that ends a name: a blank (up to 20 hexadecimal), a dot, a bracket or a quote.
abbrev pub is_delimiter : ℕ → Bool
is_delimiter byte = nat_le byte 32 || byte == 46 || byte == 91 || byte == 93 || byte == 34

-- At least one byte, and no delimiter.
pub record IsName (bytes : List ℕ) : Type 0 where
  pub some : 0 < length bytes
  pub plain : AllByRecursion (λ byte. is_delimiter byte ≡ false) bytes
