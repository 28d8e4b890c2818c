use Rattle.std.proofs.Common.{◌≡◌, map, take}
use Rattle.std.specs.List.{filter_map}
use Rattle.apply_cli.specs.Unmatched.{distinct, prefix_of}
use Rattle.apply_cli.proofs.unmatched.distinct_prefixes.Given as goal

-- the prefixes of the halts so far
abbrev pub invariant-loop-halt : goal.invariant-loop-halt
invariant-loop-halt l = map (λ prefix. prefix.now) l.prefixes.items ≡ distinct (filter_map prefix_of (take l.halt-index l.halts))
