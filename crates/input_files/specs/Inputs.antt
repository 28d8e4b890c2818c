-- What is read of inputs.
use Rattle.std.specs.Prelude.{◌≡◌, ◌+◌, ℕ, List, Bool, true, false, Option, IfSome, codes, take}
use Rattle.std.specs.Str.{bytes_eq}

-- The most bytes of an input: 64 MiB.
abbrev pub max_bytes : ℕ
max_bytes = 67108864

-- The bytes of an input that were read: all of them, or as many as show that it is too large.
abbrev pub IsReadOf : (given : Option (List ℕ)) → List ℕ → Type 0
IsReadOf given bytes = IfSome given (λ all. bytes ≡ take (max_bytes + 1) all)

-- The bytes that were read of standard input, or of a file. `remaining` gives the bytes of a file.
abbrev pub IsInput : {File : Type 0} → (remaining : File → Option (List ℕ)) → (standard : Option (List ℕ)) → (is_standard : Bool) → List ℕ → Type 0
IsInput remaining standard true bytes = IsReadOf standard bytes
IsInput {File = File} remaining standard false bytes = (file : File) × IsReadOf (remaining file) bytes

-- The bytes that were read by a name: `-` is standard input.
abbrev pub IsInputOf : {File : Type 0} → (remaining : File → Option (List ℕ)) → (standard : Option (List ℕ)) → (name : List ℕ) → List ℕ → Type 0
IsInputOf remaining standard name bytes = IsInput remaining standard (bytes_eq name (codes "-")) bytes
