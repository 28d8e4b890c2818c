use Rattle.std.proofs.Common.{◌≡◌, ℕ, ◌<◌, false, get_or}
use Rattle.apply_address.specs.Names.{is_delimiter}
use Rattle.apply_address.proofs.name.name_size.Given as goal

abbrev pub invariant-loop-size : goal.invariant-loop-size
invariant-loop-size l = (k : ℕ) → k < l.size → is_delimiter (get_or l.bytes k 0) ≡ false
