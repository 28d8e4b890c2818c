-- Modules, one after the other.
use Rattle.std.proofs.Common.{◌≡◌, ℕ, zero, suc, ◌<◌, ◌≤◌, List, [], length, Option, Some, None, refl, ap, sym, ◌∙◌, arith}
use Rattle.std.specs.Option.{option_map_or}
use Rattle.std.proofs.lemmas.List.{nil_from_length}
use Rattle.apply_address.specs.Reading.{◌>>=◌, Last, after_module, last_after_modules, last_in, name_at, typed_in}

-- What is left of a text, with room for its modules, has the same last part as the whole.
pub record IsLeft (rest whole : List ℕ) : Type 0 where
  pub most : ℕ
  pub room : length rest ≤ most
  pub same : last_after_modules most rest ≡ last_after_modules (length whole) whole

pub left-all : (whole : List ℕ) → IsLeft whole whole
left-all whole = record { most = length whole; room = omega arith; same = refl }

abbrev pub next : (most : ℕ) (rest : List ℕ) → Option Last → Option (List ℕ) → Option (Last × List ℕ)
next most rest last remainder = option_map_or (λ (l : Last). Some (l, rest)) last (remainder >>= last_after_modules most)

pub step : (most : ℕ) (rest : List ℕ) (last : Option Last) (remainder : Option (List ℕ)) → last_in rest ≡ last → after_module rest ≡ remainder → last_after_modules (suc most) rest ≡ next most rest last remainder
unfolding last_after_modules
step most rest last remainder last_is remainder_is = ap (λ l. next most rest l (after_module rest)) last_is ∙ ap (λ b. next most rest last b) remainder_is

last_in-nil : last_in [] ≡ None
unfolding last_in typed_in name_at
last_in-nil = refl

one_more : (most : ℕ) (rest remainder whole : List ℕ) → last_in rest ≡ None → after_module rest ≡ Some remainder → length remainder < length rest
    → length rest ≤ most → last_after_modules most rest ≡ last_after_modules (length whole) whole → IsLeft remainder whole
one_more zero rest remainder whole no_last answer shorter room same = absurd (omega arith)
one_more (suc most) rest remainder whole no_last answer shorter room same = record {
  most = most;
  room = omega arith;
  same = sym (step most rest None (Some remainder) no_last answer) ∙ same;
}

pub left-more : (rest remainder whole : List ℕ) → last_in rest ≡ None → after_module rest ≡ Some remainder → length remainder < length rest → IsLeft rest whole → IsLeft remainder whole
left-more rest remainder whole no_last answer shorter left = one_more left.most rest remainder whole no_last answer shorter left.room left.same

none_after : (most : ℕ) (rest : List ℕ) → last_in rest ≡ None → after_module rest ≡ None → last_after_modules most rest ≡ None
unfolding last_after_modules
none_after zero rest no_last none = refl
none_after (suc most) rest no_last none = step most rest None None no_last none

pub left-none : (rest whole : List ℕ) → last_in rest ≡ None → after_module rest ≡ None → IsLeft rest whole → None ≡ last_after_modules (length whole) whole
left-none rest whole no_last none left = sym (none_after left.most rest no_last none) ∙ left.same

pub here : (most : ℕ) (rest : List ℕ) (last : Last) → length rest ≤ most → last_in rest ≡ Some last → last_after_modules most rest ≡ Some (last, rest)
here zero rest last room is = absurd (let none : last_in rest ≡ None = rw (nil_from_length rest (omega arith)) last_in-nil in cc)
here (suc most) rest last room is = step most rest (Some last) (after_module rest) is refl

pub left-last : (rest whole : List ℕ) (last : Last) → last_in rest ≡ Some last → IsLeft rest whole → Some (last, rest) ≡ last_after_modules (length whole) whole
left-last rest whole last is left = sym (here left.most rest last left.room is) ∙ left.same
