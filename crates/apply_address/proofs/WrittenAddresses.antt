-- The addresses that are written are read.
use Rattle.std.proofs.Common.{◌≡◌, ℕ, zero, suc, ◌+◌, ◌≤◌, ◌==◌, Bool, true, false, cond, codes, List, [], ◌∷◌, ◌++◌, length, Some, None, refl, sym, ap, ◌∙◌, arith, append_assoc, append-nil, length-append}
use Rattle.std.specs.Prelude.{if◌then◌else◌, option_map}
use Rattle.std.specs.List.{AllByRecursion, flat_map}
use Rattle.std.specs.Option.{option_or}
use Rattle.std.proofs.lemmas.Bool.Decides.{nat_tests}
use Rattle.apply_model.specs.Plan.Address.{after_prefix}
use Rattle.apply_address.specs.Address.{Address, IsAddress, IsNamed, Named, parts_of, written, written_module, written_modules, written_named, written_resource}
use Rattle.apply_address.specs.Keys.{no_key, meant_key}
use Rattle.apply_address.specs.Names.{IsName}
use Rattle.apply_address.specs.Parts.{Parts}
use Rattle.apply_address.specs.Reading.{◌>>=◌, Last, NameAndKey, after_module, last_after_modules, last_in, name_at, named_at, parts_in, typed_in}
use Rattle.apply_address.proofs.LocatedAddresses.{module_is, parts_located, last_named}
use Rattle.apply_address.proofs.LocatedNames.{meant_named}
use Rattle.apply_address.proofs.Modules.{here, step}
use Rattle.apply_address.proofs.Steps.{after_prefix-at}
use Rattle.apply_address.proofs.WrittenNames.{name_written, named_written}

-- what is read where a type, a dot and a name stand in front
in_front : (kind rest : List ℕ) (named : NameAndKey) (remainder : List ℕ) → IsName kind → named_at rest ≡ Some (named, remainder)
    → typed_in (kind ++ 46 ∷ rest) ≡ (if length remainder == 0 then Some (last_named kind named) else None)
unfolding typed_in
in_front kind rest named remainder is read =
    let name : name_at (kind ++ 46 ∷ rest) ≡ Some (kind, 46 ∷ rest) = name_written kind (46 ∷ rest) is refl in
    rw name (rw read refl)

typed_written : (kind : List ℕ) (named : Named) → IsName kind → IsNamed named → typed_in (kind ++ 46 ∷ written_named named) ≡ Some (last_named kind (meant_named named))
typed_written kind named kind_is named_is =
    let read : named_at (written_named named) ≡ Some (meant_named named, []) = ap named_at (sym (append-nil (written_named named))) ∙ named_written named [] named_is tt in
    in_front kind (written_named named) (meant_named named) [] kind_is read

-- if a dot stands after the second name, the text is no last part
typed_more : (kind : List ℕ) (named : Named) (remainder : List ℕ) → IsName kind → IsNamed named → typed_in (kind ++ 46 ∷ (written_named named ++ 46 ∷ remainder)) ≡ None
typed_more kind named remainder kind_is named_is =
    let some : (length (46 ∷ remainder) == 0) ≡ false = grind (arith, nat_tests) in
    in_front kind (written_named named ++ 46 ∷ remainder) (meant_named named) (46 ∷ remainder) kind_is (named_written named (46 ∷ remainder) named_is refl)
    ∙ ap (λ b. cond b (Some (last_named kind (meant_named named))) None) some

data_name : IsName (codes "data")
data_name = record { some = omega arith; plain = (refl, (refl, (refl, (refl, tt)))) }

module_name : IsName (codes "module")
module_name = record { some = omega arith; plain = (refl, (refl, (refl, (refl, (refl, (refl, tt)))))) }

-- ---- the last part

-- the last part of an address
abbrev last_of : Address → Last
last_of address = last_named address.kind_name (meant_named address.named)

last_managed : (text : List ℕ) (last : Last) → typed_in text ≡ Some last → last_in text ≡ Some last
unfolding last_in
last_managed text last is = rw is refl

last_data : (text : List ℕ) (last : Last) → typed_in (codes "data." ++ text) ≡ None → typed_in text ≡ Some last → last_in (codes "data." ++ text) ≡ Some last
unfolding last_in
last_data text last none is = ap (λ o. option_or o (after_prefix (codes "data.") (codes "data." ++ text) >>= typed_in)) none ∙ ap (λ o. o >>= typed_in) (after_prefix-at (codes "data.") text) ∙ is

resource_read : (is_data : Bool) (kind : List ℕ) (named : Named) → IsName kind → IsNamed named
    → last_in ((if is_data then codes "data." else []) ++ kind ++ codes "." ++ written_named named) ≡ Some (last_named kind (meant_named named))
resource_read false kind named kind_is named_is =
    let whole : kind ++ codes "." ++ written_named named ≡ kind ++ 46 ∷ written_named named = append_assoc kind (codes ".") (written_named named) in
    ap last_in whole ∙ last_managed (kind ++ 46 ∷ written_named named) (last_named kind (meant_named named)) (typed_written kind named kind_is named_is)
resource_read true kind named kind_is named_is =
    let inside = kind ++ 46 ∷ written_named named in
    let whole : codes "data." ++ kind ++ codes "." ++ written_named named ≡ codes "data." ++ inside = ap (λ t. codes "data." ++ t) (append_assoc kind (codes ".") (written_named named)) in
    let bare : Named = record { name = kind; key = no_key } in
    let none : typed_in (codes "data." ++ inside) ≡ None =
    ap (λ t. typed_in (codes "data" ++ 46 ∷ (t ++ 46 ∷ written_named named))) (sym (append-nil kind))
    ∙ typed_more (codes "data") bare (written_named named) data_name (record { name = kind_is; key = tt }) in
    ap last_in whole ∙ last_data inside (last_named kind (meant_named named)) none (typed_written kind named kind_is named_is)

-- ---- modules

no_data : (rest : List ℕ) → after_prefix (codes "data.") (codes "module." ++ rest) ≡ None
no_data rest = refl

module_text : (named : Named) (remainder : List ℕ) → written_module named ++ remainder ≡ codes "module." ++ (written_named named ++ 46 ∷ remainder)
module_text named remainder = ap (λ t. codes "module." ++ t) (append_assoc (written_named named) (codes ".") remainder)

module_no_last : (named : Named) (remainder : List ℕ) → IsNamed named → last_in (written_module named ++ remainder) ≡ None
unfolding last_in
module_no_last named remainder is =
    let inside = written_named named ++ 46 ∷ remainder in
    let none : typed_in (codes "module." ++ inside) ≡ None = typed_more (codes "module") named remainder module_name is in
    ap (λ t. option_or (typed_in t) (after_prefix (codes "data.") t >>= typed_in)) (module_text named remainder)
    ∙ ap (λ o. option_or o (after_prefix (codes "data.") (codes "module." ++ inside) >>= typed_in)) none ∙ ap (λ o. o >>= typed_in) (no_data inside)

module_read : (named : Named) (remainder : List ℕ) → IsNamed named → after_module (written_module named ++ remainder) ≡ Some remainder
unfolding after_module
module_read named remainder is =
    let inside = written_named named ++ 46 ∷ remainder in
    let word : after_prefix (codes "module.") (codes "module." ++ inside) ≡ Some inside = after_prefix-at (codes "module.") inside in
    let read : named_at inside ≡ Some (meant_named named, 46 ∷ remainder) = named_written named (46 ∷ remainder) is refl in
    let dot : after_prefix (codes ".") (46 ∷ remainder) ≡ Some remainder = after_prefix-at (codes ".") remainder in
    ap (λ t. after_prefix (codes "module.") t >>= named_at >>= λ answer. after_prefix (codes ".") answer.1) (module_text named remainder)
    ∙ ap (λ o. o >>= named_at >>= λ answer. after_prefix (codes ".") answer.1) word ∙ ap (λ o. o >>= λ answer. after_prefix (codes ".") answer.1) read ∙ dot

after_read : (most : ℕ) (modules : List Named) (resource : List ℕ) (last : Last) → AllByRecursion IsNamed modules → last_in resource ≡ Some last
    → length (flat_map written_module modules ++ resource) ≤ most → last_after_modules most (flat_map written_module modules ++ resource) ≡ Some (last, resource)
after_read most [] resource last are is room = here most resource last room is
after_read zero (named ∷ modules) resource last are is room = absurd (omega arith)
after_read (suc most) (named ∷ modules) resource last are is room =
    let rest = flat_map written_module modules ++ resource in
    let whole : flat_map written_module (named ∷ modules) ++ resource ≡ written_module named ++ rest = append_assoc (written_module named) (flat_map written_module modules) resource in
    let some : length (written_module named ++ rest) ≡ length (written_module named) + length rest = length-append (written_module named) rest in
    let less : length rest ≤ most = omega (arith, ap length whole) in
    ap (last_after_modules (suc most)) whole
    ∙ step most (written_module named ++ rest) None (Some rest) (module_no_last named rest are.0) (module_read named rest are.0)
    ∙ after_read most modules resource last are.1 is less

-- ---- addresses

pub address_read : (address : Address) → IsAddress address → parts_in (written address) ≡ Some (parts_of address)
unfolding parts_in
address_read address is =
    let text = written address in
    let resource = written_resource address in
    let last : last_in resource ≡ Some (last_of address) = resource_read address.is_data address.kind_name address.named is.kind_name is.named in
    let answer : last_after_modules (length text) text ≡ Some (last_of address, resource) = after_read (length text) address.modules resource (last_of address) is.modules last (omega arith) in
    ap (λ o. option_map (parts_located text) o) answer
    ∙ ap (λ (m : List ℕ). let parts : Parts = record {
      module_address = m;
      resource = resource;
      kind_name = address.kind_name;
      name = address.named.name;
      key = meant_key address.named.key;
    } in Some parts) (module_is (written_modules address) resource)
