-- What a list of tokens starts with.
use Rattle.std.specs.Prelude.{◌≡◌, ◌<◌, ◌-◌, ℕ, List, length, Some, None}
use Rattle.json.specs.Token.{Token}
use Rattle.json.specs.Json.{items, members, parse_map, value}
use Rattle.serde_json.specs.Data.{Data, Items, Members, array, no_members, object}
use Rattle.serde_json.specs.Read.{converted, of_items, of_json, of_members}
use Rattle.apply_json.specs.declared.value_start.ValueStart.{ValueStart}
use Rattle.apply_json.specs.declared.value_start.ValueStart.TheVariants as value_start
use Rattle.apply_json.specs.ShallowView.{IsScalar, shallow_view, shallow_of}

-- the tokens `before` are a value of at most this depth, then `rest`; `d` is its tree
abbrev pub IsRead : (depth : ℕ) → (before : List Token) → Data → (rest : List Token) → Type 0
IsRead depth before d rest = converted of_json (value depth before) ≡ Some (d, rest)

-- the tokens start with no value of at most this depth
abbrev pub IsNoValue : (depth : ℕ) → List Token → Type 0
IsNoValue depth before = converted of_json (value depth before) ≡ None

-- the tokens `before` are the items of an array with its `]`, then `rest`
abbrev pub AreItems : (depth : ℕ) → (before : List Token) → Items → (rest : List Token) → Type 0
AreItems depth before ds rest = converted of_items (items (value depth) (length before) before) ≡ Some (ds, rest)

abbrev pub AreNoItems : (depth : ℕ) → List Token → Type 0
AreNoItems depth before = converted of_items (items (value depth) (length before) before) ≡ None

-- the tokens `before` are the members of an object with its `}`, then `rest`
abbrev pub AreMembers : (depth : ℕ) → (before : List Token) → Members → (rest : List Token) → Type 0
AreMembers depth before ms rest =
    converted (λ found. of_members found no_members) (members (value depth) (length before) before) ≡ Some (ms, rest)

abbrev pub AreNoMembers : (depth : ℕ) → List Token → Type 0
AreNoMembers depth before = converted (λ found. of_members found no_members) (members (value depth) (length before) before) ≡ None

-- the tokens `before` are a scalar, `[` or `{`, then `rest`
abbrev pub StartsValue : ValueStart → (depth : ℕ) → (before : List Token) → (rest : List Token) → Type 0
StartsValue (value_start.Shallow s) depth before rest = (d : Data) × IsRead depth before d rest × (shallow_view s ≡ shallow_of (Some d)) × IsScalar d
StartsValue value_start.Array depth before rest =
    (0 < depth)
    × (converted of_json (value depth before) ≡ parse_map array (converted of_items (items (value (depth - 1)) (length rest) rest)))
StartsValue value_start.Object depth before rest =
    (0 < depth)
    × (converted of_json (value depth before)
    ≡ parse_map object (converted (λ ms. of_members ms no_members) (members (value (depth - 1)) (length rest) rest)))
