-- The addresses that are nearest to an unknown address.
use Rattle.std.specs.Prelude.{ℕ, zero, suc, codes, List, [], ◌∷◌, ◌++◌, Bool, false, ◌==◌, ◌||◌, not, nat_eq, if◌then◌else◌}
use Rattle.std.specs.List.{starts_with}
use Rattle.std.specs.Str.{bytes_eq}
use Rattle.input_validate.specs.declared.addresses.AddressPart.{AddressPart}
use Rattle.input_validate.specs.declared.addresses.AddressPart.TheVariants.{Outside, Key, Quoted, Escaped, Behind}
use Rattle.input_validate.specs.NearestNames.{nearest, places_where}

-- ---- without keys

-- the part of the next byte: a bracket, a quote or a backslash begins or ends a part, and a space
-- outside of keys ends the address
abbrev pub part_after : AddressPart → ℕ → AddressPart
part_after Outside byte = if byte == 91 then Key else if byte == 32 then Behind else Outside
part_after Key byte = if byte == 93 then Outside else if byte == 34 then Quoted else Key
part_after Quoted byte = if byte == 34 then Key else if byte == 92 then Escaped else Quoted
part_after Escaped byte = Quoted
part_after Behind byte = Behind

-- a byte stands outside of keys, and begins none
abbrev pub is_kept : AddressPart → ℕ → Bool
is_kept Outside byte = not (byte == 91 || byte == 32)
is_kept _ byte = false

-- the bytes outside of keys
abbrev pub without_keys : AddressPart → List ℕ → List ℕ
without_keys part [] = []
without_keys part (byte ∷ bytes) = (if is_kept part byte then byte ∷ [] else []) ++ without_keys (part_after part byte) bytes

-- ---- without modules

-- What follows the modules of an address without keys. `dots` is the number of dots before the end
-- of the module in which the text begins.
abbrev pub after_modules : (dots : ℕ) → List ℕ → List ℕ
after_modules dots [] = []
after_modules zero (byte ∷ bytes) = if starts_with nat_eq (byte ∷ bytes) (codes "module.") then after_modules 2 bytes else byte ∷ bytes
after_modules (suc dots) (byte ∷ bytes) = after_modules (if byte == 46 then dots else suc dots) bytes

-- the resource of an address: the address without modules, keys and ` (deposed object 4f2c9a1b)`
abbrev pub resource_of : List ℕ → List ℕ
resource_of address = after_modules 0 (without_keys Outside address)

-- ---- near addresses

-- an address is of this resource
abbrev pub is_of : (resource : List ℕ) → List ℕ → Bool
is_of resource address = bytes_eq (resource_of address) resource

-- these numbers, or others if there are none
abbrev pub or_else : List ℕ → List ℕ → List ℕ
or_else [] others = others
or_else (n ∷ ns) others = n ∷ ns

-- the numbers of the addresses of the same resource; if there are none, of the nearest texts
abbrev pub nearest_addresses : (reach : ℕ) → List ℕ → List (List ℕ) → List ℕ
nearest_addresses reach stated addresses =
    or_else (places_where (is_of (resource_of stated)) 0 addresses) (nearest reach stated addresses)
