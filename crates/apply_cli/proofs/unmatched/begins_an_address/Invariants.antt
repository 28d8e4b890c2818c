use Rattle.std.proofs.Common.{◌≡◌, false, take}
use Rattle.apply_cli.specs.Unmatched.{begins_an_address}
use Rattle.apply_cli.proofs.unmatched.begins_an_address.Given as goal

-- no address so far begins with the prefix
abbrev pub invariant-loop-number : goal.invariant-loop-number
invariant-loop-number l = begins_an_address (take l.number l.plan.changes) l.prefix ≡ false
