-- What a line more does to a due.
use Rattle.std.proofs.Common.{◌≡◌, ◌/◌, ◌*◌, ◌≤◌, ◌++◌, ◌∷◌, [], ℕ, max, ℤ, pos, negsuc, ◌+ℤ◌, ◌-ℤ◌, ◌≤ℤ◌, All, List, map, Option, Some, None, refl, sym, ap, ◌∙◌, arith}
use Rattle.std.specs.Prelude.{IfSome, unwrap_or}
use Rattle.std.proofs.lemmas.Int.{ints}
use Rattle.std.proofs.lemmas.List.{map-append}
use Rattle.std.proofs.lemmas.Nat.{le-div}
use Rattle.std.proofs.lemmas.List.Elements.{All-head, All-tail}
use Rattle.std.proofs.Math.Nat.{div-mul-le_self, div-one, mul-le-mul_left, zero-div}
use Rattle.stream_play.specs.Due.{HasPaced, Pacing, due_of, first_of, forward, greatest, time_of}

-- ---- the first message

first_kept : (xs ys : List (Option ℤ)) (f : ℤ) → first_of xs ≡ Some f → first_of (xs ++ ys) ≡ Some f
first_kept [] ys f e = absurd cc
first_kept (None ∷ xs) ys f e = first_kept xs ys f e
first_kept (Some m ∷ xs) ys f e = e

first_late : (xs ys : List (Option ℤ)) → first_of xs ≡ None → first_of (xs ++ ys) ≡ first_of ys
first_late [] ys e = refl
first_late (None ∷ xs) ys e = first_late xs ys e
first_late (Some m ∷ xs) ys e = absurd cc

-- ---- the greatest time

no_time : (speed : ℕ) (first : Option ℤ) → time_of speed first None ≡ 0
no_time speed None = refl
no_time speed (Some f) = refl

-- where there is no message
none_0 : (speed : ℕ) (first : Option ℤ) (xs : List (Option ℤ)) → first_of xs ≡ None → greatest (map (time_of speed first) xs) ≡ 0
none_0 speed first [] e = refl
none_0 speed first (None ∷ xs) e =
    let here = no_time speed first in let rest = none_0 speed first xs e in omega arith
none_0 speed first (Some m ∷ xs) e = absurd cc

greatest_more : (ns : List ℕ) (n : ℕ) → greatest (ns ++ n ∷ []) ≡ max (greatest ns) n
greatest_more [] n = omega arith
greatest_more (m ∷ ns) n = let rest = greatest_more ns n in omega arith

greatest_of_more : (t : Option ℤ → ℕ) (xs : List (Option ℤ)) (x : Option ℤ) → greatest (map t (xs ++ x ∷ [])) ≡ max (greatest (map t xs)) (t x)
greatest_of_more t xs x = ap greatest (map-append t xs (x ∷ [])) ∙ greatest_more (map t xs) (t x)

due_behind : (speed : ℕ) (xs : List (Option ℤ)) (x : Option ℤ) (f : ℤ) → first_of xs ≡ Some f → due_of speed (xs ++ x ∷ []) ≡ max (due_of speed xs) (time_of speed (Some f) x)
due_behind speed xs x f e =
    ap (λ (o : Option ℤ). greatest (map (time_of speed o) (xs ++ x ∷ []))) (first_kept xs (x ∷ []) f e)
    ∙ greatest_of_more (time_of speed (Some f)) xs x
    ∙ ap (λ (o : Option ℤ). max (greatest (map (time_of speed o) xs)) (time_of speed (Some f) x)) (sym e)

due_of_none : (speed : ℕ) (xs : List (Option ℤ)) → first_of xs ≡ None → due_of speed xs ≡ 0
due_of_none speed xs e = none_0 speed (first_of xs) xs e

itself : (m : ℤ) → forward (m -ℤ m) ≡ 0
itself m = ap forward (let e : (m -ℤ m) ≡ pos 0 = omega (arith, ints) in e)

time_of_first : (speed : ℕ) (x : Option ℤ) → time_of speed (first_of (x ∷ [])) x ≡ 0
time_of_first speed None = refl
time_of_first speed (Some m) = ap (λ n. n / speed) (itself m) ∙ zero-div speed

-- the first message is due at once
due_at_first : (speed : ℕ) (xs : List (Option ℤ)) (x : Option ℤ) → first_of xs ≡ None → due_of speed (xs ++ x ∷ []) ≡ 0
due_at_first speed xs x e =
    let late = first_late xs (x ∷ []) e in
    let none = none_0 speed (first_of (x ∷ [])) xs e in
    let own = time_of_first speed x in
    ap (λ (o : Option ℤ). greatest (map (time_of speed o) (xs ++ x ∷ []))) late
    ∙ greatest_of_more (time_of speed (first_of (x ∷ []))) xs x ∙ omega arith

-- ---- the state of a pace

pub taken_none : (p : Pacing) (xs : List (Option ℤ)) → HasPaced p xs → HasPaced p (xs ++ None ∷ [])
taken_none p xs h = by_first (first_of xs) refl
  where
    by_first : (o : Option ℤ) → first_of xs ≡ o → HasPaced p (xs ++ None ∷ [])
    by_first None e = record {
      first = h.first ∙ e ∙ sym (first_late xs (None ∷ []) e);
      due = h.due ∙ due_of_none p.speed xs e ∙ sym (due_at_first p.speed xs None e);
    }
    by_first (Some f) e = record {
      first = h.first ∙ e ∙ sym (first_kept xs (None ∷ []) f e);
      due = h.due ∙ (let more = due_behind p.speed xs None f e in omega arith);
    }

pub taken_some : (p q : Pacing) (xs : List (Option ℤ)) (m : ℤ) → q.speed ≡ p.speed → q.first ≡ Some (unwrap_or p.first m) → q.due ≡ max p.due (time_of p.speed (Some (unwrap_or p.first m)) (Some m)) → HasPaced p xs → HasPaced q (xs ++ Some m ∷ [])
taken_some p q xs m same first due h = by_first (first_of xs) refl
  where
    by_first : (o : Option ℤ) → first_of xs ≡ o → HasPaced q (xs ++ Some m ∷ [])
    by_first None e =
        let is : p.first ≡ None = h.first ∙ e in
        let now : q.first ≡ Some m = first ∙ ap (λ (o : Option ℤ). Some (unwrap_or o m)) is in
        let own = time_of_first p.speed (Some m) in
        let old : p.due ≡ 0 = h.due ∙ due_of_none p.speed xs e in
        let new : q.due ≡ max p.due (time_of p.speed (Some m) (Some m)) = due ∙ ap (λ (o : Option ℤ). max p.due (time_of p.speed (Some (unwrap_or o m)) (Some m))) is in
        record {
          first = now ∙ sym (first_late xs (Some m ∷ []) e);
          due = new ∙ (let z : max p.due (time_of p.speed (Some m) (Some m)) ≡ 0 = omega arith in z) ∙ sym (due_at_first q.speed xs (Some m) e);
        }
    by_first (Some f) e =
        let is : p.first ≡ Some f = h.first ∙ e in
        record {
          first = first ∙ ap (λ (o : Option ℤ). Some (unwrap_or o m)) is ∙ sym (first_kept xs (Some m ∷ []) f e);
          due = due
              ∙ ap (λ (o : Option ℤ). max p.due (time_of p.speed (Some (unwrap_or o m)) (Some m))) is
              ∙ ap (λ (n : ℕ). max n (time_of p.speed (Some f) (Some m))) h.due
              ∙ sym (due_behind p.speed xs (Some m) f e)
              ∙ ap (λ (n : ℕ). due_of n (xs ++ Some m ∷ [])) (sym same);
        }

-- ---- laws

pub never_falls : (speed : ℕ) (xs : List (Option ℤ)) (x : Option ℤ) → due_of speed xs ≤ due_of speed (xs ++ x ∷ [])
never_falls speed xs x = by_first (first_of xs) refl
  where
    by_first : (o : Option ℤ) → first_of xs ≡ o → due_of speed xs ≤ due_of speed (xs ++ x ∷ [])
    by_first None e = let none = due_of_none speed xs e in omega arith
    by_first (Some f) e = let more = due_behind speed xs x f e in omega arith

-- ---- times that are smaller

all_smaller : (s t : Option ℤ → ℕ) → ((x : Option ℤ) → s x ≤ t x) → (xs : List (Option ℤ)) → greatest (map s xs) ≤ greatest (map t xs)
all_smaller s t h [] = omega arith
all_smaller s t h (x ∷ xs) = let here = h x in let rest = all_smaller s t h xs in omega arith

quotient_smaller : (n slow fast : ℕ) → 1 ≤ slow → slow ≤ fast → n / fast ≤ n / slow
quotient_smaller n slow fast some no_less =
    let less : n / fast * slow ≤ n / fast * fast = mul-le-mul_left (n / fast) no_less in
    let within = div-mul-le_self n fast in
    le-div (n / fast) n slow (omega arith) (omega arith)

time_smaller : (slow fast : ℕ) (first x : Option ℤ) → 1 ≤ slow → slow ≤ fast → time_of fast first x ≤ time_of slow first x
time_smaller slow fast None x some no_less = omega arith
time_smaller slow fast (Some f) None some no_less = omega arith
time_smaller slow fast (Some f) (Some m) some no_less = quotient_smaller (forward (m -ℤ f)) slow fast some no_less

pub faster : (slow fast : ℕ) (xs : List (Option ℤ)) → 1 ≤ slow → slow ≤ fast → due_of fast xs ≤ due_of slow xs
faster slow fast xs some no_less = all_smaller (time_of fast (first_of xs)) (time_of slow (first_of xs)) (λ x. time_smaller slow fast (first_of xs) x some no_less) xs

-- ---- at speed 1

-- a later timestamp is further forward
further : (f a b : ℤ) → a ≤ℤ b → forward (a -ℤ f) ≤ forward (b -ℤ f)
further f a b le = of_each (a -ℤ f) (b -ℤ f) (let e : (a -ℤ f) ≤ℤ (b -ℤ f) = omega (arith, ints) in e)
  where
    of_each : (x y : ℤ) → x ≤ℤ y → forward x ≤ forward y
    of_each (pos n) (pos m) le = omega (arith, ints)
    of_each (pos n) (negsuc m) le = omega (arith, ints)
    of_each (negsuc n) (pos m) le = omega (arith, ints)
    of_each (negsuc n) (negsuc m) le = omega (arith, ints)

back_again : (f m : ℤ) → f ≤ℤ m → m ≡ (f +ℤ pos (forward (m -ℤ f)))
back_again f m le = of_difference (m -ℤ f) refl
  where
    of_difference : (d : ℤ) → (m -ℤ f) ≡ d → m ≡ (f +ℤ pos (forward d))
    of_difference (pos n) e = omega (arith, ints)
    of_difference (negsuc n) e = omega (arith, ints)

no_later : (f m : ℤ) (xs : List (Option ℤ)) → All (λ x. IfSome x (λ e. e ≤ℤ m)) xs → greatest (map (time_of 1 (Some f)) xs) ≤ forward (m -ℤ f)
no_later f m [] h = omega arith
no_later f m (None ∷ xs) h = let rest = no_later f m xs (All-tail (λ x. IfSome x (λ e. e ≤ℤ m)) None xs h) in omega arith
no_later f m (Some e ∷ xs) h =
    let here = further f e m (All-head (λ x. IfSome x (λ e. e ≤ℤ m)) (Some e) xs h) in
    let one = div-one (forward (e -ℤ f)) in
    let rest = no_later f m xs (All-tail (λ x. IfSome x (λ e. e ≤ℤ m)) (Some e) xs h) in omega arith

same_first : (a b : ℤ) → Some a ≡ Some b → a ≡ b
same_first a b e = cc

first_below : (f m : ℤ) (xs : List (Option ℤ)) → first_of (xs ++ Some m ∷ []) ≡ Some f → All (λ x. IfSome x (λ e. e ≤ℤ m)) xs → f ≤ℤ m
first_below f m [] e h = let is = same_first m f e in omega (arith, ints)
first_below f m (None ∷ xs) e h = first_below f m xs e (All-tail (λ x. IfSome x (λ e. e ≤ℤ m)) None xs h)
first_below f m (Some x ∷ xs) e h =
    let is = same_first x f e in
    let here : x ≤ℤ m = All-head (λ x. IfSome x (λ e. e ≤ℤ m)) (Some x) xs h in omega (arith, ints)

pub from_the_first : (xs : List (Option ℤ)) (f m : ℤ) → first_of (xs ++ Some m ∷ []) ≡ Some f → All (λ x. IfSome x (λ e. e ≤ℤ m)) xs → m ≡ (f +ℤ pos (due_of 1 (xs ++ Some m ∷ [])))
from_the_first xs f m e h =
    let most = no_later f m xs h in
    let one = div-one (forward (m -ℤ f)) in
    let all : due_of 1 (xs ++ Some m ∷ []) ≡ max (greatest (map (time_of 1 (Some f)) xs)) (time_of 1 (Some f) (Some m)) =
    ap (λ (o : Option ℤ). greatest (map (time_of 1 o) (xs ++ Some m ∷ []))) e ∙ greatest_of_more (time_of 1 (Some f)) xs (Some m) in
    let due : forward (m -ℤ f) ≡ due_of 1 (xs ++ Some m ∷ []) = omega arith in
    back_again f m (first_below f m xs e h) ∙ ap (λ (n : ℕ). f +ℤ pos n) due
