-- Items that a collector has read, before the items that follow.
use Rattle.std.proofs.Common.{◌≡◌, List, [], ◌∷◌, ◌++◌, Option, Some, None, refl, ap}
use Rattle.json.specs.Token.{Token}
use Rattle.json.specs.Json.{parse_map}
use Rattle.serde_json.specs.Data.{Data, Items, no_items, item}
use Rattle.apply_json.specs.Tree.{list_of}

abbrev pub before : List Data → Items → Items
before [] rest = rest
before (d ∷ ds) rest = item d (before ds rest)

push : (ds : List Data) (d : Data) (rest : Items) → before ds (item d rest) ≡ before (ds ++ d ∷ []) rest
push [] d rest = refl
push (x ∷ ds) d rest = ap (item x) (push ds d rest)

pub list_of-before : (ds : List Data) → list_of (before ds no_items) ≡ ds
list_of-before [] = refl
list_of-before (d ∷ ds) = ap (λ (rest : List Data). d ∷ rest) (list_of-before ds)

-- no item was read yet
pub nothing_before : (r : Option (Items × List Token)) → r ≡ parse_map (before []) r
nothing_before None = refl
nothing_before (Some p) = refl

abbrev with_rest : List Token → Items → Option (Items × List Token)
with_rest rest all = Some (all, rest)

-- one more item was read
pub one_before : (ds : List Data) (d : Data) (r : Option (Items × List Token)) → parse_map (λ rest. before ds (item d rest)) r ≡ parse_map (before (ds ++ d ∷ [])) r
one_before ds d None = refl
one_before ds d (Some p) = ap (with_rest p.1) (push ds d p.0)
