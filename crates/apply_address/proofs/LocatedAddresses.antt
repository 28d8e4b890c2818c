-- The addresses that are read are written as they stand.
use Rattle.std.proofs.Common.{◌≡◌, ℕ, zero, suc, ◌+◌, ◌-◌, ◌<◌, ◌≤◌, ◌==◌, Bool, true, false, codes, List, [], ◌∷◌, ◌++◌, length, take, get_or, Option, Some, None, ◌⊎◌, inl, inr, refl, sym, ap, subst, ◌∙◌, arith, ⊎_elim, append_assoc, append-nil, length-append, lit<}
use Rattle.std.specs.Prelude.{if◌then◌else◌}
use Rattle.std.specs.List.{AllByRecursion, flat_map}
use Rattle.std.specs.Option.{option_or}
use Rattle.std.specs.Str.{IsCharBoundary, IsUtf8}
use Rattle.std.proofs.lemmas.Bool.Decides.{nat_tests}
use Rattle.std.proofs.lemmas.List.{nil_from_length, take-append-le}
use Rattle.std.proofs.lemmas.Option.{cond_some}
use Rattle.std.proofs.lemmas.Str.{IsCharBoundary-before_ascii, IsCharBoundary-start}
use Rattle.apply_model.specs.Plan.Address.{after_prefix}
use Rattle.apply_address.specs.Address.{Address, IsAddress, IsNamed, Named, parts_of, written, written_module, written_modules, written_named, written_resource}
use Rattle.apply_address.specs.Names.{IsName}
use Rattle.apply_address.specs.Parts.{Parts}
use Rattle.apply_address.specs.Reading.{◌>>=◌, Last, NameAndKey, after_module, last_after_modules, last_in, name_at, named_at, parts_in, typed_in}
use Rattle.apply_address.proofs.LocatedNames.{NameStands, NamedStands, name_located, named_located, meant_named}
use Rattle.apply_address.proofs.Steps.{after_prefix-answer, bind_some, map_or_some, map_some, same_Some, utf8_after}

get_or-at : (front : List ℕ) (byte : ℕ) (remainder : List ℕ) → get_or (front ++ byte ∷ remainder) (length front) 0 ≡ byte
get_or-at [] byte remainder = refl
get_or-at (first ∷ front) byte remainder = get_or-at front byte remainder

-- ---- the last part

abbrev pub last_named : List ℕ → NameAndKey → Last
last_named kind named = record { kind_name = kind; named = named }

pub record TypedStands (text : List ℕ) (last : Last) : Type 0 where
  pub named : Named
  pub kind_name : IsName last.kind_name
  pub is : IsNamed named
  pub denotes : meant_named named ≡ last.named
  pub stands : text ≡ last.kind_name ++ codes "." ++ written_named named

-- the rest of a step, with no text after it
nothing_after : (kind : List ℕ) (named : NameAndKey × List ℕ) (last : Last)
    → (if length named.1 == 0 then Some (last_named kind named.0) else None) ≡ Some last → (named.1 ≡ []) × (last_named kind named.0 ≡ last)
nothing_after kind named last is =
    let both = cond_some (length named.1 == 0) (last_named kind named.0) last is in
    (nil_from_length named.1 (let test = both.0 in grind (arith, nat_tests)), both.1)

typed_located : (text : List ℕ) (last : Last) → IsUtf8 text → typed_in text ≡ Some last → TypedStands text last
unfolding typed_in
typed_located text last utf8 is =
    let kind_step = bind_some (name_at text) _ _ is in
    let kind : List ℕ = kind_step.0.0 in
    let remainder : List ℕ = kind_step.0.1 in
    let first : NameStands text kind remainder = name_located text kind remainder kind_step.1 in
    let named_step = bind_some (after_prefix (codes ".") remainder >>= named_at) _ _ kind_step.2 in
    let dot_step = bind_some (after_prefix (codes ".") remainder) named_at named_step.0 named_step.1 in
    let rest : List ℕ = dot_step.0 in
    let dotted : remainder ≡ codes "." ++ rest = after_prefix-answer (codes ".") remainder rest dot_step.1 in
    let second : NamedStands rest named_step.0.0 named_step.0.1 =
    named_located rest named_step.0.0 named_step.0.1 (utf8_after (codes ".") rest (lit< tt, tt) (subst IsUtf8 dotted (first.utf8 utf8))) dot_step.2 in
    let ends = nothing_after kind named_step.0 last named_step.2 in
    let here : TypedStands text (last_named kind named_step.0.0) = record {
      named = second.named;
      kind_name = first.is;
      is = second.is;
      denotes = second.denotes;
      stands = first.stands ∙ ap (λ t. kind ++ t) dotted ∙ ap (λ t. kind ++ 46 ∷ t) (second.stands ∙ ap (λ t. written_named second.named ++ t) ends.0 ∙ append-nil (written_named second.named))
          ∙ sym (append_assoc kind (codes ".") (written_named second.named));
    } in
    subst (TypedStands text) ends.1 here

-- the last part of an address stands in a text, and nothing else
pub record LastStands (text : List ℕ) (last : Last) : Type 0 where
  pub is_data : Bool
  pub named : Named
  pub kind_name : IsName last.kind_name
  pub is : IsNamed named
  pub denotes : meant_named named ≡ last.named
  pub stands : text ≡ (if is_data then codes "data." else []) ++ last.kind_name ++ codes "." ++ written_named named

or_some : {A : Type 0} (o p : Option A) (x : A) → option_or o p ≡ Some x → (o ≡ Some x) ⊎ (p ≡ Some x)
or_some None p x e = inr e
or_some (Some y) p x e = inl e

last_located : (text : List ℕ) (last : Last) → IsUtf8 text → last_in text ≡ Some last → LastStands text last
unfolding last_in
last_located text last utf8 is =
    ⊎_elim
    (λ managed.
    let here = typed_located text last utf8 managed in
    record { is_data = false; named = here.named; kind_name = here.kind_name; is = here.is; denotes = here.denotes; stands = here.stands })
    (λ other.
    let step = bind_some (after_prefix (codes "data.") text) typed_in last other in
    let prefixed : text ≡ codes "data." ++ step.0 = after_prefix-answer (codes "data.") text step.0 step.1 in
    let here = typed_located step.0 last (utf8_after (codes "data.") step.0 (lit< tt, (lit< tt, (lit< tt, (lit< tt, (lit< tt, tt))))) (subst IsUtf8 prefixed utf8)) step.2 in
    record {
      is_data = true;
      named = here.named;
      kind_name = here.kind_name;
      is = here.is;
      denotes = here.denotes;
      stands = prefixed ∙ ap (λ t. codes "data." ++ t) here.stands;
    })
    (or_some (typed_in text) (after_prefix (codes "data.") text >>= typed_in) last is)

-- ---- modules

record ModuleStands (text remainder : List ℕ) : Type 0 where
  named : Named
  is : IsNamed named
  stands : text ≡ written_module named ++ remainder
  utf8 : IsUtf8 remainder

module_located : (text remainder : List ℕ) → IsUtf8 text → after_module text ≡ Some remainder → ModuleStands text remainder
unfolding after_module
module_located text remainder utf8 is =
    let named_step = bind_some (after_prefix (codes "module.") text >>= named_at) _ _ is in
    let word_step = bind_some (after_prefix (codes "module.") text) named_at named_step.0 named_step.1 in
    let inside : List ℕ = word_step.0 in
    let word : text ≡ codes "module." ++ inside = after_prefix-answer (codes "module.") text inside word_step.1 in
    let low : AllByRecursion (λ byte. byte < 128) (codes "module.") = (lit< tt, (lit< tt, (lit< tt, (lit< tt, (lit< tt, (lit< tt, (lit< tt, tt))))))) in
    let answer : NamedStands inside named_step.0.0 named_step.0.1 =
    named_located inside named_step.0.0 named_step.0.1 (utf8_after (codes "module.") inside low (subst IsUtf8 word utf8)) word_step.2 in
    let dotted : named_step.0.1 ≡ codes "." ++ remainder = after_prefix-answer (codes ".") named_step.0.1 remainder named_step.2 in
    record {
      named = answer.named;
      is = answer.is;
      stands = word ∙ ap (λ t. codes "module." ++ t) (answer.stands ∙ ap (λ t. written_named answer.named ++ t) dotted ∙ sym (append_assoc (written_named answer.named) (codes ".") remainder));
      utf8 = utf8_after (codes ".") remainder (lit< tt, tt) (subst IsUtf8 dotted answer.utf8);
    }

-- the last part stands after modules
pub record AfterModules (text : List ℕ) (last : Last) (resource : List ℕ) : Type 0 where
  pub modules : List Named
  pub are : AllByRecursion IsNamed modules
  pub stand : text ≡ flat_map written_module modules ++ resource
  pub ends : LastStands resource last

one_more : (text remainder : List ℕ) (last : Last) (resource : List ℕ) → ModuleStands text remainder → AfterModules remainder last resource → AfterModules text last resource
one_more text remainder last resource first others = record {
  modules = first.named ∷ others.modules;
  are = (first.is, others.are);
  stand = first.stands ∙ ap (λ t. written_module first.named ++ t) others.stand ∙ sym (append_assoc (written_module first.named) (flat_map written_module others.modules) resource);
  ends = others.ends;
}

pub after_located : (most : ℕ) (text : List ℕ) (last : Last) (resource : List ℕ) → IsUtf8 text → last_after_modules most text ≡ Some (last, resource) → AfterModules text last resource
unfolding last_after_modules
after_located zero text last resource utf8 is = absurd cc
after_located (suc most) text last resource utf8 is =
    ⊎_elim
    (λ here.
    let pair : (here.0, text) ≡ (last, resource) = same_Some _ _ here.2 in
    let P : Last × List ℕ → Type 0 = λ p. AfterModules text p.0 p.1 in
    subst P pair (record { modules = []; are = tt; stand = refl; ends = last_located text here.0 utf8 here.1 }))
    (λ other.
    let step = bind_some (after_module text) (last_after_modules most) (last, resource) other.1 in
    let first = module_located text step.0 utf8 step.1 in
    one_more text step.0 last resource first (after_located most step.0 last resource first.utf8 step.2))
    (map_or_some (λ (l : Last). Some (l, text)) (last_in text) (after_module text >>= last_after_modules most) (Some (last, resource)) is)

-- ---- where the module ends

pub ends_with_dot : (modules : List Named) → (flat_map written_module modules ≡ []) ⊎ ((front : List ℕ) × (flat_map written_module modules ≡ front ++ codes "."))
ends_with_dot [] = inl refl
ends_with_dot (named ∷ modules) =
    let front = codes "module." ++ written_named named in
    ⊎_elim
    (λ none. inr (front, ap (λ t. written_module named ++ t) none ∙ append-nil (written_module named)))
    (λ some. inr (written_module named ++ some.0, ap (λ t. written_module named ++ t) some.1 ∙ sym (append_assoc (written_module named) some.0 (codes "."))))
    (ends_with_dot modules)

pub module_boundary : (text : List ℕ) (last : Last) (resource : List ℕ) → IsUtf8 text → AfterModules text last resource
    → (length resource ≤ length text) × IsCharBoundary text (length text - length resource - 1)
module_boundary text last resource utf8 answer =
    let modules = flat_map written_module answer.modules in
    let whole : length text ≡ length modules + length resource = ap length answer.stand ∙ length-append modules resource in
    let place : length text - length resource - 1 ≡ length modules - 1 = omega arith in (
      omega arith,
      subst (IsCharBoundary text) (sym place)
          (⊎_elim
          (λ none. let zero_long : length modules - 1 ≡ 0 = omega (arith, ap length none) in subst (IsCharBoundary text) (sym zero_long) (IsCharBoundary-start text utf8))
          (λ some.
          let long : length modules ≡ length some.0 + 1 = ap length some.1 ∙ length-append some.0 (codes ".") in
          let dot : get_or text (length some.0) 0 ≡ 46 =
          ap (λ t. get_or t (length some.0) 0) (answer.stand ∙ ap (λ t. t ++ resource) some.1 ∙ append_assoc some.0 (codes ".") resource) ∙ get_or-at some.0 46 resource in
          let at : length modules - 1 ≡ length some.0 = omega arith in
          subst (IsCharBoundary text) (sym at) (IsCharBoundary-before_ascii text (length some.0) (omega arith) (omega arith)))
          (ends_with_dot answer.modules)),
    )

-- ---- addresses

-- the parts of an address, by its last part
abbrev pub parts_located : List ℕ → Last × List ℕ → Parts
parts_located text answer = record {
  module_address = take (length text - length answer.1 - 1) text;
  resource = answer.1;
  kind_name = answer.0.kind_name;
  name = answer.0.named.name;
  key = answer.0.named.key;
}

pub module_is : (modules resource : List ℕ) → take (length (modules ++ resource) - length resource - 1) (modules ++ resource) ≡ take (length modules - 1) modules
module_is modules resource =
    let size : length (modules ++ resource) - length resource - 1 ≡ length modules - 1 = omega (arith, length-append modules resource) in
    let within : length modules - 1 ≤ length modules = omega arith in
    ap (λ k. take k (modules ++ resource)) size ∙ take-append-le (length modules - 1) modules resource within

abbrev parts_with : (module_address resource kind_name : List ℕ) → NameAndKey → Parts
parts_with module_address resource kind_name named = record {
  module_address = module_address;
  resource = resource;
  kind_name = kind_name;
  name = named.name;
  key = named.key;
}

same_parts : (module_one module_other resource_one resource_other kind_name : List ℕ) (one other : NameAndKey) → module_one ≡ module_other → resource_one ≡ resource_other → one ≡ other
    → parts_with module_one resource_one kind_name one ≡ parts_with module_other resource_other kind_name other
same_parts module_one module_other resource_one resource_other kind_name one other modules resources named =
    ap (λ m. parts_with m resource_one kind_name one) modules ∙ ap (λ r. parts_with module_other r kind_name one) resources ∙ ap (λ n. parts_with module_other resource_other kind_name n) named

pub address_located : (text : List ℕ) (parts : Parts) → IsUtf8 text → parts_in text ≡ Some parts → (address : Address) × IsAddress address × (text ≡ written address) × (parts ≡ parts_of address)
unfolding parts_in
address_located text parts utf8 is =
    let answer = map_some (parts_located text) (last_after_modules (length text) text) parts is in
    let last : Last = answer.0.0 in
    let resource : List ℕ = answer.0.1 in
    let remainder : AfterModules text last resource = after_located (length text) text last resource utf8 answer.1 in
    let address : Address = record { modules = remainder.modules; is_data = remainder.ends.is_data; kind_name = last.kind_name; named = remainder.ends.named } in
    let fits : IsAddress address = record { modules = remainder.are; kind_name = remainder.ends.kind_name; named = remainder.ends.is } in
    let whole : text ≡ written_modules address ++ resource = remainder.stand in
    let module_same : take (length text - length resource - 1) text ≡ take (length (written_modules address) - 1) (written_modules address) =
    ap (λ t. take (length t - length resource - 1) t) whole ∙ module_is (written_modules address) resource in (
      address,
      fits,
      whole ∙ ap (λ t. written_modules address ++ t) remainder.ends.stands,
      sym answer.2 ∙ same_parts _ _ resource (written_resource address) last.kind_name last.named (meant_named remainder.ends.named) module_same remainder.ends.stands (sym remainder.ends.denotes),
    )
