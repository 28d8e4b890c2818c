-- Reading a list as a loop does, for private clauses: each element after the earlier results.
use Rattle.std.specs.Prelude.{List, [], ◌∷◌, ◌++◌, Result, Ok}
use Rattle.serde_json.specs.Data.{Data, Items, no_items, item}
use Rattle.apply_plan.specs.Results.{◌>>=◌}

-- the results `earlier` and those of the elements, or the first error
unfoldable pub made_after : {A E : Type 0} → (List A → Data → Result A E) → List A → Items → Result (List A) E
made_after answer earlier no_items = Ok earlier
made_after answer earlier (item d ds) = do
  made ← answer earlier d
  made_after answer (earlier ++ made ∷ []) ds

-- a list as items
abbrev pub items_of : List Data → Items
items_of [] = no_items
items_of (d ∷ ds) = item d (items_of ds)
