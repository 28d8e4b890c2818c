-- What the places of open steps take in bytes, when one comes or goes.
use Rattle.std.proofs.Common.{◌≡◌, ℕ, ◌+◌, ◌*◌, ◌≤◌, List, [], ◌∷◌, Bool, true, false, length, Some, Vec, Global, Ordering, Less, Equal, Greater, ap, ⊎_elim, arith}
use Rattle.std.specs.List.{sum_by}
use Rattle.std.specs.BTreeMap.{insert_entry}
use Rattle.std.specs.Map.{lookup, remove_entry, set_value}
use Rattle.std.specs.Ordering.{match_ordering}
use Rattle.std.proofs.lemmas.Bool.{cases_Bool}
use Rattle.std.proofs.lemmas.List.Sums.{sum_by-cons}

module _ {K : Type 0} (f : K → ℕ) where
  abbrev weight : K × Vec ℕ Global → ℕ
  weight e = f e.0 + 8 * length e.1.items

  -- an entry is removed
  pub removed_bytes : (test : K → Bool) (es : List (K × Vec ℕ Global)) (v : Vec ℕ Global) → lookup test es ≡ Some v
      → sum_by weight (remove_entry test es) + 8 * length v.items ≤ sum_by weight es
  removed_bytes test [] v h = absurd cc
  removed_bytes test (e ∷ es) v h =
      ⊎_elim
      (λ (yes : test e.0 ≡ true).
      let here : Some e.1 ≡ Some v = rw yes at h in
      let same : e.1 ≡ v = cc in
      let long : length e.1.items ≡ length v.items = ap (λ (w : Vec ℕ Global). length w.items) same in
      rw yes (omega (arith, sum_by-cons weight e es, long)))
      (λ (no : test e.0 ≡ false).
      let rest = removed_bytes test es v (rw no at h) in
      rw no (omega (arith, sum_by-cons weight e es, sum_by-cons weight e (remove_entry test es), rest)))
      (cases_Bool (test e.0))

  pub fewer_bytes : (test : K → Bool) (es : List (K × Vec ℕ Global)) → sum_by weight (remove_entry test es) ≤ sum_by weight es
  fewer_bytes test [] = omega arith
  fewer_bytes test (e ∷ es) =
      ⊎_elim
      (λ (yes : test e.0 ≡ true). rw yes (omega (arith, sum_by-cons weight e es)))
      (λ (no : test e.0 ≡ false). rw no (omega (arith, sum_by-cons weight e es, sum_by-cons weight e (remove_entry test es), fewer_bytes test es)))
      (cases_Bool (test e.0))

  -- an entry has fewer places
  pub set_bytes : (test : K → Bool) (es : List (K × Vec ℕ Global)) (v w : Vec ℕ Global) → lookup test es ≡ Some v → length w.items ≤ length v.items
      → sum_by weight (set_value test es w) ≤ sum_by weight es
  set_bytes test [] v w h l = absurd cc
  set_bytes test (e ∷ es) v w h l =
      ⊎_elim
      (λ (yes : test e.0 ≡ true).
      let here : Some e.1 ≡ Some v = rw yes at h in
      let same : e.1 ≡ v = cc in
      let long : length e.1.items ≡ length v.items = ap (λ (w : Vec ℕ Global). length w.items) same in
      rw yes (omega (arith, sum_by-cons weight e es, sum_by-cons weight (e.0, w) es, long)))
      (λ (no : test e.0 ≡ false).
      let rest = set_bytes test es v w (rw no at h) l in
      rw no (omega (arith, sum_by-cons weight e es, sum_by-cons weight e (set_value test es w), rest)))
      (cases_Bool (test e.0))

  -- an entry comes
  each_order : (o : Ordering) (a b c : List (K × Vec ℕ Global)) (n : ℕ) → sum_by weight a ≤ n → sum_by weight b ≤ n → sum_by weight c ≤ n
      → sum_by weight (match_ordering o a b c) ≤ n
  each_order Less a b c n h k l = h
  each_order Equal a b c n h k l = k
  each_order Greater a b c n h k l = l

  pub inserted_bytes : (cmp : K → K → Ordering) (es : List (K × Vec ℕ Global)) (k : K) (v : Vec ℕ Global)
      → sum_by weight (insert_entry cmp es k v) ≤ sum_by weight es + (f k + 8 * length v.items)
  inserted_bytes cmp [] k v = omega arith
  inserted_bytes cmp (e ∷ es) k v =
      each_order (cmp k e.0) _ _ _ _
      (omega (arith, sum_by-cons weight (k, v) (e ∷ es)))
      (omega (arith, sum_by-cons weight (e.0, v) es, sum_by-cons weight e es))
      (omega (arith, sum_by-cons weight e (insert_entry cmp es k v), sum_by-cons weight e es, inserted_bytes cmp es k v))
