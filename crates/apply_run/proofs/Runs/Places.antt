-- Facts of each item of a list and its place.
use Rattle.std.proofs.Common.{◌≡◌, ℕ, ◌+◌, ◌<◌, ◌≤◌, zero, suc, List, [], ◌∷◌, ◌++◌, length, length-append, get_or, sym, ap, subst, ◌∙◌, arith}
use Rattle.std.proofs.lemmas.List.{append-nil}
use Rattle.apply_run.specs.Run.Threads.{EachAt}

pub each_nil : {X : Type 0} → (F : ℕ → X → Type 0) → EachAt F []
each_nil F k x low = absurd (omega arith)

pub each_tail : {X : Type 0} → (F : ℕ → X → Type 0) (x : X) (xs : List X) → EachAt F (x ∷ xs) → EachAt (λ k. F (suc k)) xs
each_tail F x xs h k d low = h (suc k) d (omega arith)

pub each_snoc : {X : Type 0} → (F : ℕ → X → Type 0) (xs : List X) (x : X) → EachAt F xs → F (length xs) x → EachAt F (xs ++ x ∷ [])
each_snoc F [] x h here zero d low = here
each_snoc F [] x h here (suc k) d low = absurd (omega arith)
each_snoc F (y ∷ ys) x h here zero d low = h zero d (omega arith)
each_snoc F (y ∷ ys) x h here (suc k) d low = each_snoc (λ n. F (suc n)) ys x (each_tail F y ys h) here k d (omega arith)

each_mid : {X : Type 0} → (F : ℕ → X → Type 0) (front rest : List X) (x : X) → EachAt F (front ++ x ∷ rest) → F (length front) x
each_mid F [] rest x h = h zero x (omega arith)
each_mid F (y ∷ ys) rest x h = each_mid (λ n. F (suc n)) ys rest x (each_tail F y (ys ++ x ∷ rest) h)

-- the fact of an item in the middle
pub each_at : {X : Type 0} → (F : ℕ → X → Type 0) (all front rest : List X) (x : X) → front ++ x ∷ rest ≡ all → EachAt F all → F (length front) x
each_at F all front rest x e h = each_mid F front rest x (subst (EachAt F) (sym e) h)

pub each_head : {X : Type 0} → (F : ℕ → X → Type 0) (x : X) (xs : List X) → EachAt F (x ∷ xs) → F 0 x
each_head F x xs h = h 0 x (omega arith)

-- where nothing is left, all was seen
pub all_seen : {X : Type 0} → (seen rest all : List X) (left : ℕ) → seen ++ rest ≡ all → left ≡ length rest → left ≡ 0 → seen ≡ all
all_seen seen [] all left e count none = sym (append-nil seen) ∙ e
all_seen seen (x ∷ rest) all left e count none = absurd (omega arith)

-- of those that were seen no more were made
pub made_few : {X Y : Type 0} → (seen rest all : List X) (made : List Y) → seen ++ rest ≡ all → length made ≡ length seen → length made ≤ length all
made_few seen rest all made e count = let joined = sym (length-append seen rest) ∙ ap length e in omega arith

-- where none was made, the places behind those that were made are all places
pub each_behind_none : {X Y : Type 0} → (F : ℕ → X → Type 0) (made : List Y) (xs all : List X) → made ≡ [] → xs ≡ all → EachAt F all → EachAt (λ k. F (length made + k)) xs
each_behind_none F made xs all none same h k x low =
    let zero_made = ap length none in
    let here : k ≡ length made + k = omega arith in
    subst (λ n. F n (get_or xs k x)) here (subst (EachAt F) (sym same) h k x low)

-- without its first item a list is shorter
pub one_fewer : {X : Type 0} → (xs rest : List X) (x : X) → xs ≡ x ∷ rest → length rest < length xs
one_fewer xs rest x is = let longer = ap length is in omega arith
