-- The numbers of changes by object, for the type that stores them.
use Rattle.std.specs.Prelude.{ℕ, Option}
use Rattle.std.specs.Map.{lookup}
use Rattle.apply_resolve.specs.declared.object_id.ObjectId.{ObjectId}
use Rattle.apply_resolve.specs.declared.change_numbers.ChangeNumbers.{ChangeNumbers}
use Rattle.apply_resolve.specs.HashedId.{hashed, is_same}

-- The number of the object's change.
abbrev pub number_of : ChangeNumbers → ObjectId → Option ℕ
number_of numbers id = lookup (is_same (hashed id)) numbers.numbers.entries
