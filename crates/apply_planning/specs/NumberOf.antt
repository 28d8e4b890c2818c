-- The numbers of names in a map, for private clauses.
use Rattle.std.specs.Prelude.{◌≡◌, ℕ, List, Option}
use Rattle.std.specs.BTreeMap.{get_by}
use Rattle.std.specs.Cmp.Lexicographic.{slice_cmp}
use Rattle.std.specs.Ordering.{nat_cmp}
use Rattle.apply_planning.specs.declared.names.Names.{Names}
use Rattle.apply_planning.specs.declared.told.Told.{Told}
use Rattle.apply_planning.specs.Names.{first_named}

-- The number that the map has for the name.
abbrev pub number_of : Names → (name : List ℕ) → Option ℕ
number_of names name = get_by (λ key. slice_cmp nat_cmp name key.now) names.numbers

-- The map has the number of each name.
abbrev pub HasNumbers : List Told → Names → Type 0
HasNumbers told names = (name : List ℕ) → number_of names name ≡ first_named told name
