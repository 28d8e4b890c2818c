use Rattle.std.proofs.Common.{◌≡◌, ℕ, List, drop}
use Rattle.std.specs.BTreeMap.{get_by}
use Rattle.std.specs.Cmp.Lexicographic.{slice_cmp}
use Rattle.std.specs.Ordering.{nat_cmp}
use Rattle.std.specs.List.{position_from}
use Rattle.std.specs.Str.{bytes_eq}
use Rattle.apply_planning.specs.Names.{names_of}
use Rattle.apply_planning.proofs.names.Names.new.Given as goal

-- the objects from the current one on have their numbers
abbrev pub invariant-loop-number : goal.invariant-loop-number
invariant-loop-number l = (name : List ℕ) → get_by (λ key. slice_cmp nat_cmp name key.now) l.numbers ≡ position_from (bytes_eq name) l.number (drop l.number (names_of l.told))
