-- What a value is about: an object, by its address and its deposed key.
use Rattle.std.specs.Prelude.{ℕ, List, Bool, find, is_some, Option, option_map}
use Rattle.std.specs.List.{enumerate_from}
use Rattle.apply_model.specs.Plan.ResourceChange.{ResourceChange}
use Rattle.apply_resolve.specs.ObjectName.{name_one_object}

-- the address of an object, and its deposed key or none
pub record ObjectName : Type 0 where
  pub address : List ℕ
  pub deposed : Option (List ℕ)

abbrev pub is_same_name : ObjectName → ObjectName → Bool
is_same_name one other = name_one_object one.address one.deposed other.address other.deposed

-- the object of a change
abbrev pub object_of : ResourceChange → ObjectName
object_of change = record { address = change.address; deposed = change.deposed }

-- the number of the first of these values that is about the object
abbrev pub number_in : {X : Type 0} → (X → ObjectName) → List X → ObjectName → Option ℕ
number_in about values object = option_map (λ p. p.0) (find (λ p. is_same_name (about p.1) object) (enumerate_from 0 values))

-- one of these values is about the object
abbrev pub is_among : {X : Type 0} → (X → ObjectName) → List X → ObjectName → Bool
is_among about values object = is_some (number_in about values object)
