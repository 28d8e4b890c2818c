-- Modules by their names: the addresses of modules without instance keys.
use Rattle.std.specs.Prelude.{ℕ, zero, suc, List, [], ◌++◌, codes, length, if◌then◌else◌, Option, Some, None, option_map, unwrap_or}
use Rattle.apply_model.specs.Plan.Address.{after_prefix, is_empty}
use Rattle.apply_address.specs.Reading.{◌>>=◌, NameAndKey, named_at}

-- The name at the front, by a name with its key. The text after the dot follows; none where the
-- whole text is read.
abbrev pub and_next : NameAndKey × List ℕ → Option (List ℕ × Option (List ℕ))
and_next named =
    if is_empty named.1 then Some (named.0.name, None)
    else option_map (λ remainder. (named.0.name, Some remainder)) (after_prefix (codes ".") named.1)

-- The name of the module at the front of a module's address, and the address within that module.
unfoldable pub module_at : List ℕ → Option (List ℕ × Option (List ℕ))
module_at text = after_prefix (codes "module.") text >>= named_at >>= and_next

-- A module by its name alone, with a dot after it.
abbrev pub plain_module : List ℕ → List ℕ
plain_module name = codes "module." ++ name ++ codes "."

-- The modules of an address by their names alone, each with a dot after it, at most `most` of them.
-- None where the text is no address of a module.
unfoldable pub plain_modules : (most : ℕ) → Option (List ℕ) → Option (List ℕ)
plain_modules most None = Some []
plain_modules zero (Some text) = None
plain_modules (suc most) (Some text) =
    module_at text >>= λ first. option_map (λ others. plain_module first.0 ++ others) (plain_modules most first.1)

-- What stands before the name of a resource: the address of its module without keys and a dot, and
-- nothing in the root module. A text that is no address of a module stays as it is.
unfoldable pub module_prefix : List ℕ → List ℕ
module_prefix text =
    if is_empty text then []
    else unwrap_or (plain_modules (length text) (Some text)) (text ++ codes ".")
