-- Numbers that were sorted, each once.
use Rattle.std.proofs.Common.{◌≡◌, ◌∙◌, ℕ, List, [], ◌∷◌, All, Bool, true, cond, eqb, sym, subst, eq-eqb, ap, ⊎_elim, ne_eqb}
use Rattle.std.specs.Prelude.{filter, not}
use Rattle.std.specs.List.{Contains, dedup}
use Rattle.std.specs.List.Sorted.{IsPermutation, IsSorted, IsStrictlyIncreasing}
use Rattle.std.specs.Ordering.{nat_cmp}
use Rattle.std.proofs.lemmas.Bool.{and_from, and_parts, cond_both, not-true, not_from_false, true≢false}
use Rattle.std.proofs.lemmas.List.Elements.{All-contains, All-contains_itself, All-filter, filter_passes}
use Rattle.std.proofs.lemmas.List.Kept.{Contains-dedup_nat, Contains-from_dedup}
use Rattle.std.proofs.lemmas.List.Sorted.{Contains-permutation, IsPermutation-sym}
use Rattle.std.proofs.lemmas.Map.Keys.{IsStrictlyIncreasing-dedup}
use Rattle.stream_record_waits.specs.declared.step_of_plan.StepOfPlan.{StepOfPlan}
use Rattle.stream_record_waits.specs.Graph.{AreAll, IsEarlyFor, Reaches, WaitsFor}
use Rattle.stream_record_waits.specs.Reached.{AreInOrder, is_early, is_wait}
use Rattle.stream_record_waits.specs.Steps.{has_begun, is_done_before}
use Rattle.stream_record_waits.proofs.Members.{front_or_further, further, in_front, no_member}

pub in_order_is : (numbers sorted ordered : List ℕ) → IsPermutation numbers sorted → IsSorted nat_cmp sorted → ordered ≡ dedup eqb sorted → AreInOrder numbers ordered
in_order_is numbers sorted ordered moved ascends once = record {
  in_order = subst IsStrictlyIncreasing (sym once) (IsStrictlyIncreasing-dedup sorted ascends);
  sound = λ number c. Contains-permutation sorted numbers number (IsPermutation-sym numbers sorted moved)
      (Contains-from_dedup eqb sorted number (subst (λ (list : List ℕ). Contains list number) once c));
  complete = λ number c. subst (λ (list : List ℕ). Contains list number) (sym once)
      (Contains-dedup_nat sorted number (Contains-permutation numbers sorted number moved c));
}

pub kept : (p : ℕ → Bool) (xs : List ℕ) (x : ℕ) → Contains xs x → p x ≡ true → Contains (filter p xs) x
kept p [] x c is = absurd (no_member x c)
kept p (y ∷ ys) x c is = ⊎_elim
    (λ (same : y ≡ x). subst (λ (b : Bool). Contains (cond b (y ∷ filter p ys) (filter p ys)) x) (sym (ap p same ∙ is)) (subst (λ (z : ℕ). Contains (z ∷ filter p ys) x) (sym same) (in_front x (filter p ys))))
    (λ (more : Contains ys x).
    let below = kept p ys x more is in
    cond_both (p y) (y ∷ filter p ys) (filter p ys) (λ (list : List ℕ). Contains list x) (λ _. further y x (filter p ys) below) (λ _. below))
    (front_or_further y x ys c)

-- the reached steps that pass a test, in their order
module _ (R P : ℕ → Type 0) (p : ℕ → Bool) (to : (n : ℕ) → R n → p n ≡ true → P n) (reached : (n : ℕ) → P n → R n) (passes : (n : ℕ) → P n → p n ≡ true)
    (found chosen ordered : List ℕ) (sound : All R found) (complete : (n : ℕ) → R n → Contains found n) (is : chosen ≡ filter p found) (put : AreInOrder chosen ordered) where
  pub are_all : AreAll P ordered
  are_all = record {
    in_order = put.in_order;
    sound = λ n c.
        let among : Contains (filter p found) n = subst (λ (list : List ℕ). Contains list n) is (put.sound n c) in
        to n
        (All-contains R found n sound (All-contains (Contains found) (filter p found) n (All-filter p (Contains found) found (All-contains_itself found)) among))
        (All-contains (λ (x : ℕ). p x ≡ true) (filter p found) n (filter_passes p found) among);
    complete = λ n holds. put.complete n (subst (λ (list : List ℕ). Contains list n) (sym is) (kept p found n (complete n (reached n holds)) (passes n holds)));
  }

module _ (steps : List StepOfPlan) (graph : List (List ℕ)) (step line : ℕ) (found chosen ordered : List ℕ)
    (sound : All (Reaches steps graph step line) found) (complete : (n : ℕ) → Reaches steps graph step line n → Contains found n) where
  pub waits_are : chosen ≡ filter (is_wait steps step line) found → AreInOrder chosen ordered → AreAll (WaitsFor steps graph step line) ordered
  waits_are is put = are_all (Reaches steps graph step line) (WaitsFor steps graph step line) (is_wait steps step line)
      (λ n reached passes.
      let both = and_parts (not (eqb n step)) (is_done_before steps n line) passes in
      record {
        reaches = reached;
        done = both.1;
        differs = λ same. true≢false (sym (eq-eqb n step same) ∙ not-true (eqb n step) both.0);
      })
      (λ n w. w.reaches)
      (λ n w. and_from (not (eqb n step)) (is_done_before steps n line) (not_from_false (eqb n step) (ne_eqb n step w.differs)) w.done)
      found chosen ordered sound complete is put

  pub early_are : chosen ≡ filter (is_early steps line) found → AreInOrder chosen ordered → AreAll (IsEarlyFor steps graph step line) ordered
  early_are is put = are_all (Reaches steps graph step line) (IsEarlyFor steps graph step line) (is_early steps line)
      (λ n reached passes.
      let both = and_parts (has_begun steps n) (not (is_done_before steps n line)) passes in
      record {
        reaches = reached;
        begun = both.0;
        not_done = not-true (is_done_before steps n line) both.1;
      })
      (λ n w. w.reaches)
      (λ n w. and_from (has_begun steps n) (not (is_done_before steps n line)) w.begun (not_from_false (is_done_before steps n line) w.not_done))
      found chosen ordered sound complete is put
