-- The waits of one step more.
use Rattle.std.proofs.Common.{◌≡◌, ◌<◌, ◌≤◌, ◌+◌, ◌∙◌, ℕ, List, [], ◌∷◌, ◌++◌, length, Global, Vec, sym, ap, ⊎_elim, arith, subst, length-append}
use Rattle.std.proofs.lemmas.Bool.{cases_lt}
use Rattle.std.proofs.lemmas.List.{get_or_append_left, get_or_push, map_push}
use Rattle.std.proofs.lemmas.List.Sums.{sum_by-append}
use Rattle.stream_record_waits.specs.declared.step_of_plan.StepOfPlan.{StepOfPlan}
use Rattle.stream_record_waits.specs.Graph.{AreFirstWaits, AreStepWaits, count_of, waits_at}
use Rattle.stream_record_waits.specs.Recorded.{HasTooManyWaits, max_waits}
use Rattle.stream_record_waits.specs.Steps.{lists_in, step_at}

kept_row : (lists : List (List ℕ)) (last : List ℕ) (count step : ℕ) → length lists ≡ count → step < count → waits_at (lists ++ last ∷ []) step ≡ waits_at lists step
kept_row lists last count step size lt = get_or_append_left lists (last ∷ []) [] step (omega (arith, size, lt))

last_row : (lists : List (List ℕ)) (last : List ℕ) (count step : ℕ) → length lists ≡ count → step < count + 1 → count ≤ step → waits_at (lists ++ last ∷ []) step ≡ last
last_row lists last count step size lt ge = get_or_push lists last [] step (omega (arith, size, lt, ge))

module _ (steps : List StepOfPlan) (graph : List (List ℕ)) (count : ℕ) (after early : List (List ℕ)) (waits before : List ℕ)
    (are : AreFirstWaits steps graph count after early) (one : AreStepWaits steps graph count (step_at steps count).run waits before) where
  further_waits : (step : ℕ) → step < count + 1 → AreStepWaits steps graph step (step_at steps step).run (waits_at (after ++ waits ∷ []) step) (waits_at (early ++ before ∷ []) step)
  further_waits step within = ⊎_elim
      (λ (lt : step < count).
      subst (λ (list : List ℕ). AreStepWaits steps graph step (step_at steps step).run list (waits_at (early ++ before ∷ []) step)) (sym (kept_row after waits count step are.each lt))
      (subst (AreStepWaits steps graph step (step_at steps step).run (waits_at after step)) (sym (kept_row early before count step are.each_early lt)) (are.waits step lt)))
      (λ (ge : count ≤ step).
      let same : count ≡ step = omega (arith, within, ge) in
      subst (λ (list : List ℕ). AreStepWaits steps graph step (step_at steps step).run list (waits_at (early ++ before ∷ []) step)) (sym (last_row after waits count step are.each within ge))
      (subst (AreStepWaits steps graph step (step_at steps step).run waits) (sym (last_row early before count step are.each_early within ge))
      (subst (λ (n : ℕ). AreStepWaits steps graph n (step_at steps n).run waits before) same one)))
      (cases_lt step count)

  more_waits : AreFirstWaits steps graph (count + 1) (after ++ waits ∷ []) (early ++ before ∷ [])
  more_waits = record {
    each = let size = length-append after (waits ∷ []) in let was = are.each in omega (arith, size, was);
    each_early = let size = length-append early (before ∷ []) in let was = are.each_early in omega (arith, size, was);
    waits = further_waits;
  }

  more_count : count_of (after ++ waits ∷ []) (early ++ before ∷ []) ≡ count_of after early + (length waits + length before)
  more_count =
      let first = sum_by-append length after (waits ∷ []) in
      let second = sum_by-append length early (before ∷ []) in
      omega (arith, first, second)

  pub many_waits : count < length steps → max_waits < count_of after early + (length waits + length before) → HasTooManyWaits steps graph
  many_waits within more = record {
    count = count + 1;
    after = after ++ waits ∷ [];
    early = early ++ before ∷ [];
    known = omega (arith, within);
    are = more_waits;
    many = let sum = more_count in omega (arith, sum, more);
  }

-- the same, where the lists are in vectors
module _ (steps : List StepOfPlan) (graph : List (List ℕ)) (count : ℕ) (after early after' early' : List (Vec ℕ Global)) (waits before : Vec ℕ Global)
    (are : AreFirstWaits steps graph count (lists_in after) (lists_in early)) (one : AreStepWaits steps graph count (step_at steps count).run waits.items before.items)
    (is : after' ≡ after ++ waits ∷ []) (is_early : early' ≡ early ++ before ∷ []) where
  vectors : (AreFirstWaits steps graph (count + 1) (lists_in after') (lists_in early'))
      × (count_of (lists_in after') (lists_in early') ≡ count_of (lists_in after) (lists_in early) + (length waits.items + length before.items))
  vectors =
      let items : Vec ℕ Global → List ℕ = λ vector. vector.items in
      let first : lists_in after' ≡ lists_in after ++ waits.items ∷ [] = ap lists_in is ∙ map_push items after waits in
      let second : lists_in early' ≡ lists_in early ++ before.items ∷ [] = ap lists_in is_early ∙ map_push items early before in
      rw (first, second) (
        more_waits steps graph count (lists_in after) (lists_in early) waits.items before.items are one,
        more_count steps graph count (lists_in after) (lists_in early) waits.items before.items are one,
      )

  pub more_vectors : AreFirstWaits steps graph (count + 1) (lists_in after') (lists_in early')
  more_vectors = vectors.0

  pub count_vectors : count_of (lists_in after') (lists_in early') ≡ count_of (lists_in after) (lists_in early) + (length waits.items + length before.items)
  count_vectors = vectors.1
