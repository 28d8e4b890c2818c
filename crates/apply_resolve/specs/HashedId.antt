-- Objects with the hashes of their addresses, for the private type with that order.
use Rattle.std.specs.Prelude.{ℕ, List, Bool, ◌&&◌, ◌==◌}
use Rattle.std.specs.Hash.FoldHasher.{finish, initial, write}
use Rattle.apply_resolve.specs.declared.object_id.ObjectId.{ObjectId}
use Rattle.apply_resolve.specs.declared.hashed_id.HashedId.{HashedId}
use Rattle.apply_resolve.specs.ObjectIds.{is_same_id}

-- The hash of an address.
abbrev pub hash_of : List ℕ → ℕ
hash_of address = finish (write initial address)

-- An object with the hash of its address.
abbrev pub hashed : ObjectId → HashedId
hashed id = record { hash = hash_of id.address.now; id = id }

-- Both hashes are equal, and both objects are the same.
abbrev pub is_same : HashedId → HashedId → Bool
is_same one other = (one.hash == other.hash) && is_same_id one.id other.id
