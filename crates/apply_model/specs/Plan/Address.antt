-- Addresses of resources, and the parts that are read from them.
use Rattle.std.specs.Prelude.{ℕ, List, [], ◌∷◌, length, drop, codes, nat_eq, Bool, true, false, if◌then◌else◌, Option, Some, None, option_and_then, ◌==◌}
use Rattle.std.specs.List.{starts_with, before_first}

-- The text after the prefix; none where the text does not begin with the prefix.
abbrev pub after_prefix : List ℕ → List ℕ → Option (List ℕ)
after_prefix prefix text = if starts_with nat_eq text prefix then Some (drop (length prefix) text) else None

-- The text is empty.
abbrev pub is_empty : List ℕ → Bool
is_empty [] = true
is_empty (byte ∷ bytes) = false

-- The address within its module: the text after the module's address and a dot. In the root module
-- it is the whole address. None where that text is empty, or where the address does not begin with
-- the module's address and a dot.
abbrev pub relative_address : List ℕ → List ℕ → Option (List ℕ)
relative_address module_address address =
    option_and_then (λ relative. if is_empty relative then None else Some relative)
    (if is_empty module_address then Some address
    else option_and_then (after_prefix (codes ".")) (after_prefix module_address address))

-- The provider that a resource type implies: the text before the first underscore, or the whole
-- type.
abbrev pub provider_of : List ℕ → List ℕ
provider_of kind_name = before_first (λ byte. byte == 95) kind_name
