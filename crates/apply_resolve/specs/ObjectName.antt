-- The name of an object: its address, and its deposed key or none.
use Rattle.std.specs.Prelude.{ℕ, List, Bool, ◌&&◌, Option}
use Rattle.std.specs.Option.{option_eq}
use Rattle.std.specs.Str.{bytes_eq}
use Rattle.apply_model.specs.Plan.ResourceChange.{ResourceChange}

-- Two addresses, each with a deposed key or none, name the same object.
abbrev pub name_one_object : (address : List ℕ) (deposed : Option (List ℕ)) → (other : List ℕ) (other_deposed : Option (List ℕ)) → Bool
name_one_object address deposed other other_deposed = bytes_eq address other && option_eq bytes_eq deposed other_deposed

-- An earlier change is of the same object: it has the same address, and the same deposed key or
-- none.
abbrev pub is_same_object : ResourceChange → ResourceChange → Bool
is_same_object change earlier =
    name_one_object earlier.address earlier.deposed change.address change.deposed
