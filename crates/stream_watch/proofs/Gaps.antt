-- The empty line between a snippet and a detail.
use Rattle.std.proofs.Common.{◌≡◌, ◌<◌, List, [], ◌∷◌, Bool, true, ap, arith, cond, length, map, string_bytes, sym}
use Rattle.std.specs.Prelude.{String}
use Rattle.std.specs.declared.alloc.Global.{Global}
use Rattle.stream_watch.specs.DiagnosticRow.{gap_lines}

pub gap_there : (has_snippet : Bool) (lines : List (String Global)) → has_snippet ≡ true → 0 < length lines
    → [] ∷ [] ≡ gap_lines has_snippet (map string_bytes lines)
gap_there has_snippet [] is some = absurd (omega (arith, some))
gap_there has_snippet (line ∷ lines) is some = sym (ap (λ (b : Bool). cond b ([] ∷ []) []) is)
