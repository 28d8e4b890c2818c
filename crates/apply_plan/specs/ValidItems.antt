-- Lists in which each item must be valid, for private clauses.
use Rattle.std.specs.Prelude.{List, [], ◌∷◌, ◌++◌, Option, Some, None}

-- the list with one item more; none if an item is missing
abbrev pub added : {A : Type 0} → Option (List A) → Option A → Option (List A)
added None item = None
added (Some items) None = None
added (Some items) (Some x) = Some (items ++ x ∷ [])
