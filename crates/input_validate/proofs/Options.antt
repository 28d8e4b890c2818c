-- Optional values and tests.
use Rattle.std.proofs.Common.{◌≡◌, List, [], ◌∷◌, map, Bool, true, false, not, ◌&&◌, ◌||◌, is_some, Option, Some, None, refl, sym, ap, ◌∙◌}
use Rattle.std.specs.List.{list_all, list_any}
use Rattle.std.specs.Option.{option_and_then, option_map, option_map_or}
use Rattle.apply_json.specs.Tree.{◌>>=◌}
use Rattle.apply_plan.specs.Script.Entry.{all_some}

pub and_true : (b : Bool) → (b && true) ≡ b
and_true true = refl
and_true false = refl

pub and_false : (b : Bool) → (b && false) ≡ false
and_false true = refl
and_false false = refl

pub and_comm : (a b : Bool) → (a && b) ≡ (b && a)
and_comm true b = sym (and_true b)
and_comm false b = sym (and_false b)

pub and_assoc : (a b c : Bool) → (a && (b && c)) ≡ ((a && b) && c)
and_assoc true b c = refl
and_assoc false b c = refl

-- a test that follows from another, next to a third
pub still : (o s r : Bool) → (o && s) ≡ s → (o && (s && r)) ≡ (s && r)
still o s r e = and_assoc o s r ∙ ap (λ (b : Bool). b && r) e

pub crossed : (a b c e : Bool) → ((a && b) && (c && e)) ≡ ((a && c) && (b && e))
crossed false b c e = refl
crossed true false c e = sym (and_false c)
crossed true true c e = refl

pub and_if : (b c x y : Bool) → b ≡ c → (c ≡ true → x ≡ y) → (b && x) ≡ (c && y)
and_if b true x y e f = ap (λ (z : Bool). z && x) e ∙ f refl
and_if b false x y e f = ap (λ (z : Bool). z && x) e

pub and_left : (a b : Bool) → (a && b) ≡ true → a ≡ true
and_left true b e = refl
and_left false b e = e

pub and_right : (a b : Bool) → (a && b) ≡ true → b ≡ true
and_right true b e = e
and_right false b e = absurd cc

pub not_not : (b : Bool) → not (not b) ≡ b
not_not true = refl
not_not false = refl

pub not_or : (a b : Bool) → not (a || b) ≡ (not a && not b)
not_or true b = refl
not_or false b = refl

pub some_then : {A B : Type 0} (o : Option A) (f : A → Option B) (b : Bool) → ((x : A) → is_some (f x) ≡ b) → is_some (o >>= f) ≡ (is_some o && b)
some_then None f b is = refl
some_then (Some x) f b is = is x

pub some_map : {A B : Type 0} (f : A → B) (o : Option A) → is_some (option_map f o) ≡ is_some o
some_map f None = refl
some_map f (Some x) = refl

pub and_then_is : {A B : Type 0} (f : A → Option B) (o : Option A) → option_and_then f o ≡ (o >>= f)
and_then_is f None = refl
and_then_is f (Some x) = refl

pub nothing_then : {A B : Type 0} (o : Option A) → (o >>= λ (x : A). (let n : Option B = None in n)) ≡ None
nothing_then None = refl
nothing_then (Some x) = refl

pub bind_some : {A B : Type 0} (o : Option A) (f : A → Option B) (y : B) → (o >>= f) ≡ Some y → (x : A) × (o ≡ Some x) × (f x ≡ Some y)
bind_some None f y e = absurd cc
bind_some (Some x) f y e = (x, refl, e)

pub all_some_is : {A D : Type 0} (segment : D → Option A) (ds : List D) → is_some (all_some (map segment ds)) ≡ list_all (λ d. is_some (segment d)) ds
all_some_is segment [] = refl
all_some_is {A} segment (d ∷ ds) =
    some_then (segment d) (λ x. all_some (map segment ds) >>= λ xs. Some (x ∷ xs)) (is_some (all_some (map segment ds)))
    (λ x. some_then (all_some (map segment ds)) (λ xs. Some (x ∷ xs)) true (λ xs. refl) ∙ and_true (is_some (all_some (map segment ds))))
    ∙ ap (λ (b : Bool). is_some (segment d) && b) (all_some_is segment ds)

-- a test of what each is, where each is something
one_more : {A : Type 0} (fits : A → Bool) (o : Option A) (os : Option (List A)) (rest : Bool) → rest ≡ option_map_or (list_all fits) os false
    → (option_map_or fits o false && rest) ≡ option_map_or (list_all fits) (o >>= λ x. os >>= λ xs. Some (x ∷ xs)) false
one_more fits None os rest is = refl
one_more fits (Some x) None rest is = ap (λ (b : Bool). fits x && b) is ∙ and_false (fits x)
one_more fits (Some x) (Some xs) rest is = ap (λ (b : Bool). fits x && b) is

pub all_fit : {A D : Type 0} (segment : D → Option A) (fits : A → Bool) (ds : List D)
    → list_all (λ d. option_map_or fits (segment d) false) ds ≡ option_map_or (list_all fits) (all_some (map segment ds)) false
all_fit segment fits [] = refl
all_fit segment fits (d ∷ ds) =
    one_more fits (segment d) (all_some (map segment ds)) (list_all (λ d. option_map_or fits (segment d) false) ds) (all_fit segment fits ds)

pub none_any : {A : Type 0} (p : A → Bool) (xs : List A) → list_all (λ x. not (p x)) xs ≡ not (list_any p xs)
none_any p [] = refl
none_any p (x ∷ xs) = ap (λ (b : Bool). not (p x) && b) (none_any p xs) ∙ sym (not_or (p x) (list_any p xs))
