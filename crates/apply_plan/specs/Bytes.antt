-- Inputs: bytes, then JSON, then what the tree states.
use Rattle.std.specs.Prelude.{ℕ, List, length, nat_lt, if◌then◌else◌, Result, Err}
use Rattle.serde_json.specs.Data.{Data}
use Rattle.apply_json.specs.Tree.{tree_of}
use Rattle.apply_plan.specs.Results.{◌>>=◌, or_refuse}

-- the greatest size of a plan and of a script, 64 MiB
abbrev pub max_bytes : ℕ
max_bytes = 67108864

-- what the tree of the bytes states, or one of two errors: too many bytes, or no JSON
abbrev pub of_bytes : {X E : Type 0} → (too_large not_json : E) → (Data → Result X E) → List ℕ → Result X E
of_bytes too_large not_json of_tree bytes =
    if nat_lt max_bytes (length bytes) then Err too_large else (or_refuse not_json (tree_of bytes) >>= of_tree)
