-- An address begins with the address of its module.
use Rattle.std.proofs.Common.{◌≡◌, ℕ, ◌-◌, ◌<◌, true, List, [], ◌∷◌, ◌++◌, codes, length, take, Some, ◌⊎◌, inl, inr, refl, ap, subst, sym, ◌∙◌, append_assoc, length-append, lit<, ⊎_elim, arith}
use Rattle.std.specs.Prelude.{if◌then◌else◌, is_some}
use Rattle.std.proofs.lemmas.List.{take_at}
use Rattle.std.specs.List.{flat_map}
use Rattle.std.specs.Str.{IsUtf8}
use Rattle.apply_model.specs.Plan.Address.{relative_address}
use Rattle.apply_address.specs.Address.{Address, Named, parts_of, written, written_module, written_modules, written_named, written_resource}
use Rattle.apply_address.specs.Parts.{Parts}
use Rattle.apply_address.specs.Reading.{parts_in}
use Rattle.apply_address.proofs.LocatedAddresses.{address_located, ends_with_dot}
use Rattle.apply_address.proofs.Steps.{after_prefix-at}

in_root : (resource : List ℕ) → 0 < length resource → is_some (relative_address [] resource) ≡ true
in_root [] some = absurd (omega arith)
in_root (byte ∷ bytes) some = refl

in_module : (front resource : List ℕ) → 0 < length front → 0 < length resource → is_some (relative_address front (front ++ 46 ∷ resource)) ≡ true
in_module [] resource long some = absurd (omega arith)
in_module (byte ∷ front) [] long some = absurd (omega arith)
in_module (byte ∷ front) (other ∷ resource) long some =
    rw (after_prefix-at (byte ∷ front) (46 ∷ other ∷ resource)) refl

abbrev pub IsRelative : (module_address text : List ℕ) → Type 0
IsRelative module_address text = is_some (relative_address module_address text) ≡ true

-- the module of an address, if there is one, and its resource
split : (modules resource : List ℕ) → 0 < length resource → (modules ≡ []) ⊎ ((front : List ℕ) × (0 < length front) × (modules ≡ front ++ codes "."))
    → IsRelative (take (length modules - 1) modules) (modules ++ resource)
split modules resource some ends = ⊎_elim
    (λ none. rw none (in_root resource some))
    (λ dotted.
    let front : List ℕ = dotted.0 in
    let size : length (front ++ codes ".") - 1 ≡ length front = omega (arith, length-append front (codes ".")) in
    let before : take (length modules - 1) modules ≡ front =
    ap (λ m. take (length m - 1) m) dotted.2 ∙ ap (λ k. take k (front ++ codes ".")) size ∙ take_at front (codes ".") (length front) refl in
    let whole : modules ++ resource ≡ front ++ 46 ∷ resource = ap (λ m. m ++ resource) dotted.2 ∙ append_assoc front (codes ".") resource in
    subst (λ m. IsRelative m (modules ++ resource)) (sym before) (subst (λ t. IsRelative front t) (sym whole) (in_module front resource dotted.1 some)))
    ends

long_front : (front : List ℕ) (named : Named) (modules : List Named) → flat_map written_module (named ∷ modules) ≡ front ++ codes "." → 0 < length front
long_front [] named modules is = absurd (omega (arith, ap length is))
long_front (byte ∷ front) named modules is = omega arith

with_length : (modules : List Named) → (flat_map written_module modules ≡ []) ⊎ ((front : List ℕ) × (flat_map written_module modules ≡ front ++ codes "."))
    → (flat_map written_module modules ≡ []) ⊎ ((front : List ℕ) × (0 < length front) × (flat_map written_module modules ≡ front ++ codes "."))
with_length [] ends = inl refl
with_length (named ∷ modules) ends = ⊎_elim (λ none. inl none) (λ dotted. inr (dotted.0, long_front dotted.0 named modules dotted.1, dotted.1)) ends

long_after : (front text : List ℕ) → 0 < length text → 0 < length (front ++ text)
long_after [] text long = long
long_after (byte ∷ front) text long = omega arith

long_before : (front text : List ℕ) → 0 < length front → 0 < length (front ++ text)
long_before [] text long = absurd (omega arith)
long_before (byte ∷ front) text long = omega arith

long_resource : (address : Address) → 0 < length (written_resource address)
long_resource address =
    let front = (if address.is_data then codes "data." else []) ++ address.kind_name in
    long_before (front ++ codes ".") (written_named address.named) (long_after front (codes ".") (lit< tt))

of_address : (address : Address) → IsRelative (parts_of address).module_address (written address)
of_address address = split (written_modules address) (written_resource address) (long_resource address) (with_length address.modules (ends_with_dot address.modules))

-- the address is in its module
pub relative_stands : (text : List ℕ) (parts : Parts) → IsUtf8 text → parts_in text ≡ Some parts → IsRelative parts.module_address text
relative_stands text parts utf8 is =
    let located = address_located text parts utf8 is in
    subst (λ (p : Parts). IsRelative p.module_address text) (sym located.3) (subst (λ t. IsRelative (parts_of located.0).module_address t) (sym located.2) (of_address located.0))
