use Rattle.std.proofs.Common.{◌≡◌, ◌++◌, drop, map}
use Rattle.input_validate.specs.NearestAddresses.{is_of}
use Rattle.input_validate.specs.NearestNames.{places_where}
use Rattle.input_validate.proofs.addresses.places_of.Given as goal

abbrev pub invariant-loop-number : goal.invariant-loop-number
invariant-loop-number l =
    l.places.items ++ places_where (is_of l.resource) l.number (map (λ address. address.now) (drop l.number l.addresses))
    ≡ places_where (is_of l.resource) 0 (map (λ address. address.now) l.addresses)
