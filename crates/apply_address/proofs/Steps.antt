-- Steps that may give nothing, and prefixes.
use Rattle.std.proofs.Common.{◌≡◌, ℕ, ◌<◌, Bool, true, false, cond, List, [], ◌∷◌, ◌++◌, length, drop, nat_eq, Option, Some, None, ◌⊎◌, inl, inr, refl, sym, ap, ◌∙◌, drop_at}
use Rattle.std.specs.Prelude.{option_map}
use Rattle.std.specs.List.{AllByRecursion, starts_with}
use Rattle.std.specs.Option.{option_map_or}
use Rattle.std.specs.Str.{IsUtf8}
use Rattle.std.proofs.lemmas.Bool.Decides.{Decides-eqb}
use Rattle.std.proofs.lemmas.Option.{cond_some}
use Rattle.std.proofs.lemmas.Slice.Eq.{starts_is}
use Rattle.std.proofs.lemmas.Str.{IsUtf8-past_char, encode_ascii}
use Rattle.apply_model.specs.Plan.Address.{after_prefix}
use Rattle.apply_address.specs.Reading.{◌>>=◌}

-- both steps gave something
pub bind_some : {A B : Type 0} (o : Option A) (f : A → Option B) (y : B) → (o >>= f) ≡ Some y → (x : A) × (o ≡ Some x) × (f x ≡ Some y)
bind_some None f y e = absurd cc
bind_some (Some x) f y e = (x, refl, e)

pub map_some : {A B : Type 0} (f : A → B) (o : Option A) (y : B) → option_map f o ≡ Some y → (x : A) × (o ≡ Some x) × (f x ≡ y)
map_some f None y e = absurd cc
map_some f (Some x) y e = (x, refl, cc)

pub same_Some : {A : Type 0} (x y : A) → Some x ≡ Some y → x ≡ y
same_Some x y e = cc

-- which way a test went
pub chosen : {A : Type 0} (b : Bool) (x y z : A) → cond b x y ≡ z → ((b ≡ true) × (x ≡ z)) ⊎ ((b ≡ false) × (y ≡ z))
chosen true x y z e = inl (refl, e)
chosen false x y z e = inr (refl, e)

pub not_none : {A : Type 0} (b : Bool) (o : Option A) (y : A) → cond b None o ≡ Some y → (b ≡ false) × (o ≡ Some y)
not_none true o y e = absurd cc
not_none false o y e = (refl, e)

pub map_or_some : {A B : Type 0} (f : A → B) (o : Option A) (d z : B) → option_map_or f o d ≡ z → ((x : A) × (o ≡ Some x) × (f x ≡ z)) ⊎ ((o ≡ None) × (d ≡ z))
map_or_some f None d z e = inr (refl, e)
map_or_some f (Some x) d z e = inl (x, refl, e)

pub after_prefix-answer : (prefix text answer : List ℕ) → after_prefix prefix text ≡ Some answer → text ≡ prefix ++ answer
after_prefix-answer prefix text answer e =
    let both = cond_some (starts_with nat_eq text prefix) (drop (length prefix) text) answer e in
    (starts_is Decides-eqb text prefix (starts_with nat_eq text prefix) refl).0 both.0 ∙ ap (λ rest. prefix ++ rest) both.1

pub after_prefix-at : (prefix rest : List ℕ) → after_prefix prefix (prefix ++ rest) ≡ Some rest
after_prefix-at prefix rest =
    let begins : starts_with nat_eq (prefix ++ rest) prefix ≡ true = (starts_is Decides-eqb (prefix ++ rest) prefix (starts_with nat_eq (prefix ++ rest) prefix) refl).1 rest refl in
    rw (begins, drop_at prefix rest (length prefix) refl) refl

-- after ASCII bytes the rest of a text is a text
pub utf8_after : (front remainder : List ℕ) → AllByRecursion (λ byte. byte < 128) front → IsUtf8 (front ++ remainder) → IsUtf8 remainder
utf8_after [] remainder all utf8 = utf8
utf8_after (byte ∷ front) remainder all utf8 =
    utf8_after front remainder all.1 (IsUtf8-past_char (byte ∷ (front ++ remainder)) (front ++ remainder) byte utf8 (sym (ap (λ bytes. bytes ++ (front ++ remainder)) (encode_ascii byte all.0))))
