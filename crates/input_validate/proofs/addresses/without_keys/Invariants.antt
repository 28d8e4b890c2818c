use Rattle.std.proofs.Common.{◌≡◌, ◌++◌, drop}
use Rattle.input_validate.specs.NearestAddresses.{without_keys}
use Rattle.input_validate.specs.declared.addresses.AddressPart.TheVariants.{Outside}
use Rattle.input_validate.proofs.addresses.without_keys.Given as goal

abbrev pub invariant-loop-byte : goal.invariant-loop-byte
invariant-loop-byte l = l.kept.items ++ without_keys l.part (drop l.byte-index l.address) ≡ without_keys Outside l.address
