use Rattle.std.proofs.Common.{◌≡◌, drop}
use Rattle.input_validate.specs.NearestAddresses.{after_modules}
use Rattle.input_validate.proofs.addresses.after_modules.Given as goal

abbrev pub invariant-loop-number : goal.invariant-loop-number
invariant-loop-number l = after_modules 0 l.address ≡ after_modules l.dots (drop l.number l.address)
