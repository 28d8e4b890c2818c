-- The places of open steps at each address, when those of one address change.
use Rattle.std.proofs.Common.{◌≡◌, ℕ, ◌+◌, ◌<◌, List, [], ◌∷◌, ◌++◌, true, false, cond, length, Option, Some, None, Vec, Global, refl, sym, ap, ◌∙◌, ⊎_elim, arith}
use Rattle.std.specs.Prelude.{IfSome}
use Rattle.std.specs.Option.{option_map_or}
use Rattle.std.specs.Str.{bytes_eq}
use Rattle.std.proofs.lemmas.Bool.{cases_Bool}
use Rattle.std.proofs.lemmas.List.{length-append}
use Rattle.std.proofs.lemmas.Slice.Eq.{bytes_eq-Decides}
use Rattle.stream_timeline.specs.OpenPlaces.{without}

abbrev items_in : Option (Vec ℕ Global) → List ℕ
items_in value = option_map_or (λ (places : Vec ℕ Global). places.items) value []

-- all places of an address were removed and put back with one more
pub one_more_at : (a : List ℕ) (place : ℕ) (w : Vec ℕ Global) (old removed new : List ℕ → Option (Vec ℕ Global))
    → ((o : List ℕ) → removed o ≡ cond (bytes_eq a o) None (old o)) → ((o : List ℕ) → new o ≡ cond (bytes_eq a o) (Some w) (removed o))
    → w.items ≡ items_in (old a) ++ place ∷ []
    → (o : List ℕ) → items_in (new o) ≡ cond (bytes_eq a o) (items_in (old o) ++ place ∷ []) (items_in (old o))
one_more_at a place w old removed new t n items o =
    ⊎_elim
    (λ (yes : bytes_eq a o ≡ true).
    let same : a ≡ o = (bytes_eq-Decides a o).0 yes in
    let here : new o ≡ Some w = n o ∙ ap (λ b. cond b (Some w) (removed o)) yes in
    rw (here, yes) (items ∙ ap (λ b. items_in (old b) ++ place ∷ []) same))
    (λ (other : bytes_eq a o ≡ false).
    let here : new o ≡ old o = n o ∙ (ap (λ b. cond b (Some w) (removed o)) other ∙ (t o ∙ ap (λ b. cond b None (old o)) other)) in
    rw (here, other) refl)
    (cases_Bool (bytes_eq a o))

-- one place of an address was removed
pub one_less_at : (a : List ℕ) (place : ℕ) (v w : Vec ℕ Global) (old new : List ℕ → Option (Vec ℕ Global))
    → old a ≡ Some v → ((o : List ℕ) → new o ≡ cond (bytes_eq a o) (Some w) (old o)) → w.items ≡ without place v.items
    → (o : List ℕ) → items_in (new o) ≡ cond (bytes_eq a o) (without place (items_in (old o))) (items_in (old o))
one_less_at a place v w old new was n items o =
    ⊎_elim
    (λ (yes : bytes_eq a o ≡ true).
    let same : a ≡ o = (bytes_eq-Decides a o).0 yes in
    let here : new o ≡ Some w = n o ∙ ap (λ b. cond b (Some w) (old o)) yes in
    let there : old o ≡ Some v = ap old (sym same) ∙ was in
    rw (here, there, yes) items)
    (λ (other : bytes_eq a o ≡ false).
    let here : new o ≡ old o = n o ∙ ap (λ b. cond b (Some w) (old o)) other in
    rw (here, other) refl)
    (cases_Bool (bytes_eq a o))

-- the address had no place left, and was removed
pub emptied_at : (a : List ℕ) (old mid new : List ℕ → Option (Vec ℕ Global)) (f : List ℕ → List ℕ)
    → ((o : List ℕ) → items_in (mid o) ≡ f o) → items_in (mid a) ≡ [] → ((o : List ℕ) → new o ≡ cond (bytes_eq a o) None (mid o))
    → (o : List ℕ) → items_in (new o) ≡ f o
emptied_at a old mid new f m none n o =
    ⊎_elim
    (λ (yes : bytes_eq a o ≡ true).
    let same : a ≡ o = (bytes_eq-Decides a o).0 yes in
    let here : new o ≡ None = n o ∙ ap (λ b. cond b None (mid o)) yes in
    rw here (sym none ∙ (ap (λ b. items_in (mid b)) same ∙ m o)))
    (λ (other : bytes_eq a o ≡ false).
    let here : new o ≡ mid o = n o ∙ ap (λ b. cond b None (mid o)) other in
    rw here (m o))
    (cases_Bool (bytes_eq a o))

-- ---- no address is kept without a place

abbrev pub Filled : Option (Vec ℕ Global) → Type 0
Filled value = IfSome value (λ (places : Vec ℕ Global). 0 < length places.items)

one_after : (ps : List ℕ) (place : ℕ) (w : Vec ℕ Global) → w.items ≡ ps ++ place ∷ [] → 0 < length w.items
one_after ps place w items = let long : length w.items ≡ length ps + 1 = ap length items ∙ length-append ps (place ∷ []) in omega (arith, long)

-- at one address stands what has a place, and at the others what stood there
pub filled_at : (a : List ℕ) (w : Vec ℕ Global) (old new : List ℕ → Option (Vec ℕ Global)) → ((o : List ℕ) → new o ≡ cond (bytes_eq a o) (Some w) (old o))
    → 0 < length w.items → ((o : List ℕ) → Filled (old o)) → (o : List ℕ) → Filled (new o)
filled_at a w old new n some h o =
    ⊎_elim
    (λ (yes : bytes_eq a o ≡ true).
    let here : new o ≡ Some w = n o ∙ ap (λ b. cond b (Some w) (old o)) yes in
    rw here some)
    (λ (other : bytes_eq a o ≡ false).
    let here : new o ≡ old o = n o ∙ ap (λ b. cond b (Some w) (old o)) other in
    rw here (h o))
    (cases_Bool (bytes_eq a o))

-- at one address stands nothing any more
pub filled_without : (a : List ℕ) (old mid new : List ℕ → Option (Vec ℕ Global)) → ((o : List ℕ) → bytes_eq a o ≡ false → mid o ≡ old o)
    → ((o : List ℕ) → new o ≡ cond (bytes_eq a o) None (mid o)) → ((o : List ℕ) → Filled (old o)) → (o : List ℕ) → Filled (new o)
filled_without a old mid new m n h o =
    ⊎_elim
    (λ (yes : bytes_eq a o ≡ true).
    let here : new o ≡ None = n o ∙ ap (λ b. cond b None (mid o)) yes in
    rw here tt)
    (λ (other : bytes_eq a o ≡ false).
    let here : new o ≡ old o = n o ∙ (ap (λ b. cond b None (mid o)) other ∙ m o other) in
    rw here (h o))
    (cases_Bool (bytes_eq a o))

-- all places of an address were removed and put back with one more
pub filled_with_one_more : (a : List ℕ) (place : ℕ) (w : Vec ℕ Global) (ps : List ℕ) (old removed new : List ℕ → Option (Vec ℕ Global))
    → ((o : List ℕ) → removed o ≡ cond (bytes_eq a o) None (old o)) → ((o : List ℕ) → new o ≡ cond (bytes_eq a o) (Some w) (removed o))
    → w.items ≡ ps ++ place ∷ [] → ((o : List ℕ) → Filled (old o)) → (o : List ℕ) → Filled (new o)
filled_with_one_more a place w ps old removed new t n items h =
    filled_at a w removed new n (one_after ps place w items) (filled_without a old old removed (λ o other. refl) t h)
