-- The waits of one step more.
use Rattle.std.proofs.Common.{◌≡◌, ◌<◌, ◌≤◌, ◌+◌, ◌-◌, ◌∙◌, ℕ, List, [], ◌∷◌, ◌++◌, length, Global, Some, Vec, refl, sym, ap, ⊎_elim, arith, subst, length-append}
use Rattle.std.specs.Prelude.{slice_get}
use Rattle.std.specs.List.{sum_by}
use Rattle.std.proofs.lemmas.Bool.{cases_lt}
use Rattle.std.proofs.lemmas.List.{map-append}
use Rattle.std.proofs.lemmas.List.Sums.{sum_by-append}
use Rattle.std.proofs.lemmas.Option.{slice_get_within}
use Rattle.input_graph.specs.AllWaits.{AreFirstWaits, AreTooMany, lists_in, max_waits}
use Rattle.input_graph.specs.Waits.{AreWaits}
use Rattle.input_graph.proofs.Members.{same_place}

last_place : (lists : List (List ℕ)) (waits : List ℕ) → slice_get (lists ++ waits ∷ []) (length lists) ≡ Some waits
last_place [] waits = refl
last_place (x ∷ xs) waits = last_place xs waits

-- the waits that are counted
pub record AreCounted (steps : List (List ℕ)) (edges : List (List ℕ × List ℕ)) (lists : List (List ℕ)) (step count : ℕ) : Type 0 where
  pub each : length lists ≡ step
  pub waits : AreFirstWaits steps edges lists
  pub counted : count ≡ sum_by length lists

pub none_counted : (steps : List (List ℕ)) (edges : List (List ℕ × List ℕ)) (lists : List (Vec ℕ Global)) → lists ≡ [] → AreCounted steps edges (lists_in lists) 0 0
none_counted steps edges lists none = rw none (record { each = refl; waits = λ step waits at. cc; counted = refl })

module _ (steps : List (List ℕ)) (edges : List (List ℕ × List ℕ)) (lists : List (Vec ℕ Global)) (step count : ℕ) (waits : Vec ℕ Global)
    (before : AreCounted steps edges (lists_in lists) step count) (are : AreWaits steps edges step waits.items) where
  one_more_list : lists_in (lists ++ waits ∷ []) ≡ lists_in lists ++ waits.items ∷ []
  one_more_list = map-append (λ (vector : Vec ℕ Global). vector.items) lists (waits ∷ [])

  more_waits : AreFirstWaits steps edges (lists_in lists ++ waits.items ∷ [])
  more_waits k other at = ⊎_elim
      (λ (lt : k < length (lists_in lists)). before.waits k other (sym (same_place (lists_in lists) (waits.items ∷ []) k lt) ∙ at))
      (λ (ge : length (lists_in lists) ≤ k).
      let inside = slice_get_within (lists_in lists ++ waits.items ∷ []) k other at in
      let size = length-append (lists_in lists) (waits.items ∷ []) in
      let same : k ≡ length (lists_in lists) = omega (arith, ge, inside, size) in
      let last : slice_get (lists_in lists ++ waits.items ∷ []) k ≡ Some waits.items = ap (slice_get (lists_in lists ++ waits.items ∷ [])) same ∙ last_place (lists_in lists) waits.items in
      let it : waits.items ≡ other = cc (last, at) in
      let here : step ≡ k = sym before.each ∙ sym same in
      subst (λ (n : ℕ). AreWaits steps edges n other) here (subst (AreWaits steps edges step) it are))
      (cases_lt k (length (lists_in lists)))

  more_count : count + length waits.items ≡ sum_by length (lists_in lists ++ waits.items ∷ [])
  more_count =
      let sum = sum_by-append length (lists_in lists) (waits.items ∷ []) in
      let was = before.counted in
      omega (arith, sum, was)

  pub more_counted : (new : List (Vec ℕ Global)) → new ≡ lists ++ waits ∷ [] → AreCounted steps edges (lists_in new) (step + 1) (count + length waits.items)
  more_counted new is = subst (λ (all : List (List ℕ)). AreCounted steps edges all (step + 1) (count + length waits.items)) (sym (ap lists_in is ∙ one_more_list)) (record {
    each = let size = length-append (lists_in lists) (waits.items ∷ []) in let was = before.each in omega (arith, size, was);
    waits = more_waits;
    counted = more_count;
  })

  -- the first step with which there are too many
  pub too_many : step < length steps → count ≤ max_waits → max_waits - count < length waits.items → AreTooMany steps edges
  too_many within few more = record {
    lists = lists_in lists ++ waits.items ∷ [];
    first = let size = length-append (lists_in lists) (waits.items ∷ []) in let was = before.each in omega (arith, size, was, within);
    waits = more_waits;
    many = let sum = more_count in omega (arith, sum, few, more);
  }
