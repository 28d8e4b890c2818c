use Rattle.std.proofs.Common.{◌≡◌, map, not, string_bytes, take}
use Rattle.std.specs.List.{filter}
use Rattle.apply_cli.specs.Unmatched.{begins_an_address, unmatched_lines}
use Rattle.apply_cli.proofs.unmatched.lines_in.Given as goal

-- the lines of the prefixes so far
abbrev pub invariant-loop-prefix : goal.invariant-loop-prefix
invariant-loop-prefix l = string_bytes l.lines
    ≡ unmatched_lines (filter (λ prefix. not (begins_an_address l.plan.changes prefix)) (map (λ prefix. prefix.now) (take l.prefix-index l.prefixes)))
