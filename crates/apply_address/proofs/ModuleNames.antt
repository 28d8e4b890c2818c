-- The names of modules, one after the other.
use Rattle.std.proofs.Common.{◌≡◌, ℕ, zero, suc, ◌+◌, ◌<◌, ◌≤◌, List, [], ◌++◌, length, Option, Some, None, option_map, refl, ap, sym, ◌∙◌, append_assoc, append-nil, arith}
use Rattle.std.specs.Borrow.{Bor}
use Rattle.std.specs.Option.{option_copied}
use Rattle.std.specs.Prelude.{IfSome}
use Rattle.std.proofs.lemmas.List.{nil_from_length}
use Rattle.apply_address.specs.Modules.{module_at, plain_module, plain_modules}

-- What is left of an address, with room for its modules, ends the names that were made of it.
pub record IsLeft (rest : Option (List ℕ)) (made whole : List ℕ) : Type 0 where
  pub most : ℕ
  pub room : IfSome rest (λ text. length text ≤ most)
  pub same : plain_modules (length whole) (Some whole) ≡ option_map (λ (others : List ℕ). made ++ others) (plain_modules most rest)

none_before : (o : Option (List ℕ)) → o ≡ option_map (λ (others : List ℕ). [] ++ others) o
none_before None = refl
none_before (Some others) = refl

pub left-all : (whole made : List ℕ) → made ≡ [] → IsLeft (Some whole) made whole
left-all whole made none = record {
  most = length whole;
  room = omega arith;
  same = none_before (plain_modules (length whole) (Some whole)) ∙ ap (λ (front : List ℕ). option_map (λ (others : List ℕ). front ++ others) (plain_modules (length whole) (Some whole))) (sym none);
}

nothing_at : module_at [] ≡ None
unfolding module_at
nothing_at = refl

no_module : (most : ℕ) (text : List ℕ) → module_at text ≡ None → plain_modules most (Some text) ≡ None
unfolding plain_modules
no_module zero text none = refl
no_module (suc most) text none = rw none refl

pub left-none : (text made whole : List ℕ) → module_at text ≡ None → IsLeft (Some text) made whole → None ≡ plain_modules (length whole) (Some whole)
left-none text made whole none left = sym (left.same ∙ ap (λ (o : Option (List ℕ)). option_map (λ (others : List ℕ). made ++ others) o) (no_module left.most text none))

abbrev in_front : List ℕ → Option (List ℕ) → Option (List ℕ)
in_front front others = option_map (λ (rest : List ℕ). front ++ rest) others

one_module : (most : ℕ) (text name : List ℕ) (next : Option (List ℕ)) → module_at text ≡ Some (name, next) → plain_modules (suc most) (Some text) ≡ in_front (plain_module name) (plain_modules most next)
unfolding plain_modules
one_module most text name next first = rw first refl

regroup : (made name : List ℕ) (o : Option (List ℕ)) → in_front made (in_front name o) ≡ in_front (made ++ name) o
regroup made name None = refl
regroup made name (Some others) = ap (λ (x : List ℕ). Some x) (sym (append_assoc made name others))

within : (most : ℕ) (text : List ℕ) (next : Option (List ℕ)) → IfSome next (λ rest. length rest < length text) → length text ≤ suc most → IfSome next (λ rest. length rest ≤ most)
within most text None shorter room = tt
within most text (Some rest) shorter room = omega arith

more : (most : ℕ) (text made whole name new : List ℕ) (next : Option (List ℕ)) → module_at text ≡ Some (name, next) → IfSome next (λ rest. length rest < length text)
    → length text ≤ most → plain_modules (length whole) (Some whole) ≡ in_front made (plain_modules most (Some text)) → new ≡ made ++ plain_module name → IsLeft next new whole
more zero text made whole name new next first shorter room same grown =
    absurd (let none : module_at text ≡ None = rw (nil_from_length text (omega arith)) nothing_at in cc)
more (suc most) text made whole name new next first shorter room same grown = record {
  most = most;
  room = within most text next shorter room;
  same = same ∙ ap (in_front made) (one_module most text name next first) ∙ regroup made (plain_module name) (plain_modules most next) ∙ ap (λ (front : List ℕ). in_front front (plain_modules most next)) (sym grown);
}

pub left-more : (text made whole name new : List ℕ) (next : Option (List ℕ)) → module_at text ≡ Some (name, next) → IfSome next (λ rest. length rest < length text)
    → IsLeft (Some text) made whole → new ≡ made ++ plain_module name → IsLeft next new whole
left-more text made whole name new next first shorter left grown = more left.most text made whole name new next first shorter left.room left.same grown

nothing_left : (most : ℕ) → plain_modules most None ≡ Some []
unfolding plain_modules
nothing_left most = refl

pub left-done : (made whole : List ℕ) → IsLeft None made whole → Some made ≡ plain_modules (length whole) (Some whole)
left-done made whole left = sym (left.same ∙ ap (in_front made) (nothing_left left.most) ∙ ap (λ (x : List ℕ). Some x) (append-nil made))

-- how much is left to read
abbrev pub left_size : Option (List ℕ) → ℕ
left_size None = 0
left_size (Some text) = length text + 1

pub left-smaller : (text : List ℕ) (next : Option (List ℕ)) → IfSome next (λ rest. length rest < length text) → left_size next < left_size (Some text)
left-smaller text None shorter = omega arith
left-smaller text (Some rest) shorter = omega arith

-- the same of borrowed texts
pub shorter_copied : (text : List ℕ) (next : Option (Bor (List ℕ))) → IfSome next (λ rest. length rest.now < length text) → IfSome (option_copied next) (λ rest. length rest < length text)
shorter_copied text None shorter = tt
shorter_copied text (Some rest) shorter = shorter
