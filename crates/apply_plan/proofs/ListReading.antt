-- Reading a list one by one.
use Rattle.std.proofs.Common.{◌≡◌, List, [], ◌∷◌, ◌++◌, length, suc, Result, Ok, Err, refl, ap}
use Rattle.serde_json.specs.Data.{Data, Items, no_items, item}
use Rattle.serde_json.specs.Events.{items_len}
use Rattle.apply_json.specs.Tree.{list_of}
use Rattle.apply_plan.specs.ListReading.{items_of, made_after}
use Rattle.apply_plan.specs.Results.{◌>>=◌}

-- one element more, after the earlier results
abbrev pub one_more : {A E : Type 0} → (List A → Data → Result A E) → Data → List A → Result (List A) E
one_more answer d all = answer all d >>= λ one. Ok (all ++ one ∷ [])

pub made_more : {A E : Type 0} (answer : List A → Data → Result A E) (made : List A) (ds : List Data) (d : Data)
    → made_after answer made (items_of (ds ++ d ∷ [])) ≡ (made_after answer made (items_of ds) >>= one_more answer d)
unfolding made_after
made_more answer made [] d = refl
made_more {A} {E} answer made (first ∷ ds) d = through (answer made first) (λ one. made_more answer (made ++ one ∷ []) ds d)
  where
    through : (r : Result A E) → ((one : A) → made_after answer (made ++ one ∷ []) (items_of (ds ++ d ∷ [])) ≡ (made_after answer (made ++ one ∷ []) (items_of ds) >>= one_more answer d)) → (r >>= λ one. made_after answer (made ++ one ∷ []) (items_of (ds ++ d ∷ []))) ≡ ((r >>= λ one. made_after answer (made ++ one ∷ []) (items_of ds)) >>= one_more answer d)
    through (Ok one) more = more one
    through (Err e) more = refl

pub list_of-items_of : (ds : List Data) → list_of (items_of ds) ≡ ds
list_of-items_of [] = refl
list_of-items_of (d ∷ ds) = ap (λ (rest : List Data). d ∷ rest) (list_of-items_of ds)

pub items_of-list_of : (ds : Items) → items_of (list_of ds) ≡ ds
items_of-list_of no_items = refl
items_of-list_of (item d ds) = ap (item d) (items_of-list_of ds)

pub items_len-list_of : (ds : Items) → items_len ds ≡ length (list_of ds)
items_len-list_of no_items = refl
items_len-list_of (item d ds) = ap suc (items_len-list_of ds)
