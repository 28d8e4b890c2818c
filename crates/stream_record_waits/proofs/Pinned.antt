-- The waits of a recorded script, from the waits that were found.
use Rattle.std.proofs.Common.{◌≡◌, ◌∙◌, ◌<◌, ◌≤◌, ◌+◌, ◌^◌, ◌&&◌, ℕ, List, [], ◌∷◌, ◌++◌, Bool, true, false, cond, eqb, Global, Option, None, Some, Vec, length, get_or, drop, take, refl, sym, ap, arith, subst, ⊎_elim}
use Rattle.std.specs.List.{sum_by}
use Rattle.std.proofs.lemmas.Bool.{cases_lt}
use Rattle.std.proofs.lemmas.List.{get_or_past, map_push, take-append-drop, take-map, take_more}
use Rattle.std.proofs.lemmas.List.FromFn.{length-map-range_with_len}
use Rattle.std.proofs.lemmas.List.Sums.{sum_by-append}
use Rattle.stream_record_waits.specs.declared.choices.Choices.{Choices}
use Rattle.stream_record_waits.specs.declared.step_of_plan.StepOfPlan.{StepOfPlan}
use Rattle.stream_record_waits.specs.Basis.{IsSound}
use Rattle.stream_record_waits.specs.Behind.{AreBehind}
use Rattle.stream_record_waits.specs.Course.{Basis, pin_at, pinned_waits, schedule, with_wait}
use Rattle.stream_record_waits.specs.Graph.{AreWaitsOf, waits_at}
use Rattle.stream_record_waits.specs.Recorded.{AreFound, AreRecordedWaits, AreSoundWaits, found_basis, joined_steps, puts_back}
use Rattle.stream_record_waits.specs.Steps.{both_began, follows_at_once, lists_in}
use Rattle.stream_record_waits.proofs.SoundWaits.{all_behind_known, pinned_row, pinned_sound}
use Rattle.stream_record_waits.proofs.WithWait.{one_more_at_most}

pub basis_sound : (basis : Basis) → AreWaitsOf (length basis.steps) basis.after → length basis.joined ≡ length basis.steps → AreBehind basis.steps basis.behind → length basis.steps ≤ 2 ^ 24 → IsSound basis
basis_sound basis known joined behind few = record {
  after = known;
  joined = joined;
  behind = behind.each;
  known = all_behind_known basis.steps basis.behind behind;
  few = few;
}

one_more_of : (basis : Basis) (lanes step : ℕ) → AreBehind basis.steps basis.behind → AreSoundWaits basis.steps basis.after → length (waits_at (pinned_waits basis lanes) step) ≤ length (waits_at basis.after step) + 1
one_more_of basis lanes step behind sound = ⊎_elim
    (λ (lt : step < length basis.steps).
    subst (λ (row : List ℕ). length row ≤ length (waits_at basis.after step) + 1)
    (sym (pinned_row basis.steps basis.behind behind basis refl refl sound (schedule basis lanes) (length basis.steps) step lt))
    (one_more_at_most (pin_at basis (schedule basis lanes) step) (waits_at basis.after step)))
    (λ (ge : length basis.steps ≤ step).
    let size = length-map-range_with_len (λ (k : ℕ). with_wait (pin_at basis (schedule basis lanes) k) (waits_at basis.after k)) 0 (length basis.steps) in
    subst (λ (row : List ℕ). length row ≤ length (waits_at basis.after step) + 1) (sym (get_or_past (pinned_waits basis lanes) step [] (omega (arith, size, ge)))) (omega arith))
    (cases_lt step (length basis.steps))

module _ (steps : List StepOfPlan) (graph : Option (List (List ℕ))) (choices : Choices) (behind : List (Option ℕ)) (found after early : List (List ℕ))
    (are_behind : AreBehind steps behind) (are_found : AreFound steps graph behind choices.guesses found early) (sound : AreSoundWaits steps found) where
  -- no step is put back
  pub plain_waits : puts_back graph choices ≡ false → after ≡ found → AreRecordedWaits steps graph choices after early
  plain_waits plain same = record {
    behind = behind;
    found = found;
    are_behind = are_behind;
    are_found = are_found;
    after_is = same ∙ sym (ap (λ (b : Bool). cond b (pinned_waits (found_basis steps graph behind found) choices.lanes) found) plain);
    one_more = λ step. subst (λ (lists : List (List ℕ)). length (waits_at lists step) ≤ length (waits_at found step) + 1) (sym same) (omega arith);
  }

  pub put_back_waits : puts_back graph choices ≡ true → after ≡ pinned_waits (found_basis steps graph behind found) choices.lanes → AreRecordedWaits steps graph choices after early
  put_back_waits pins same = record {
    behind = behind;
    found = found;
    are_behind = are_behind;
    are_found = are_found;
    after_is = same ∙ sym (ap (λ (b : Bool). cond b (pinned_waits (found_basis steps graph behind found) choices.lanes) found) pins);
    one_more = λ step. subst (λ (lists : List (List ℕ)). length (waits_at lists step) ≤ length (waits_at found step) + 1) (sym same)
        (one_more_of (found_basis steps graph behind found) choices.lanes step are_behind sound);
  }

  pub put_back_sound : after ≡ pinned_waits (found_basis steps graph behind found) choices.lanes → AreSoundWaits steps after
  put_back_sound same = subst (AreSoundWaits steps) (sym same)
      (pinned_sound steps behind are_behind (found_basis steps graph behind found) refl refl sound (schedule (found_basis steps graph behind found) choices.lanes))

-- ---- what the schedule goes by

joined_size : (steps : List StepOfPlan) (graph : Option (List (List ℕ))) (found : List (List ℕ)) → length (joined_steps steps graph found) ≡ length steps
joined_size steps None found = length-map-range_with_len (λ (step : ℕ). both_began steps step && follows_at_once steps step) 0 (length steps)
joined_size steps (Some graph) found = length-map-range_with_len (λ (step : ℕ). both_began steps step && eqb (length (waits_at found step)) 0) 0 (length steps)

pub found_sound : (steps : List StepOfPlan) (graph : Option (List (List ℕ))) (behind : List (Option ℕ)) (found : List (List ℕ)) → AreBehind steps behind → AreSoundWaits steps found → length steps ≤ 2 ^ 24
    → IsSound (found_basis steps graph behind found)
found_sound steps graph behind found are_behind sound few = basis_sound (found_basis steps graph behind found) sound.of_steps (joined_size steps graph found) are_behind few

pub code_basis : (steps : List StepOfPlan) (graph : Option (List (List ℕ))) (behind : List (Option ℕ)) (found after : List (List ℕ)) (joined : List Bool) → after ≡ found → joined ≡ joined_steps steps graph found
    → ◌≡◌ {A = Basis} (record { steps = steps; after = after; joined = joined; behind = behind }) (found_basis steps graph behind found)
code_basis steps graph behind found after joined same is = cc

-- ---- how many there are

-- the front of lists has no more than all
pub sum_of_front : (k : ℕ) (lists : List (List ℕ)) → sum_by length (take k lists) ≤ sum_by length lists
sum_of_front k lists =
    let sum = sum_by-append length (take k lists) (drop k lists) in
    let all = ap (sum_by length) (take-append-drop k lists) in
    omega (arith, sum, all)

pub too_long : (lists : List (Vec ℕ Global)) (k room limit : ℕ) (list : Vec ℕ Global) → k < length lists → list ≡ get_or lists k list → room + sum_by length (lists_in (take k lists)) ≡ limit
    → room < length list.items → limit < sum_by length (lists_in lists)
too_long lists k room limit list within is was long =
    let items : Vec ℕ Global → List ℕ = λ vector. vector.items in
    let more : lists_in (take (k + 1) lists) ≡ lists_in (take k lists) ++ list.items ∷ [] =
    ap lists_in (take_more lists k list within) ∙ map_push items (take k lists) (get_or lists k list) ∙ ap (λ (v : Vec ℕ Global). lists_in (take k lists) ++ v.items ∷ []) (sym is) in
    let sum = ap (sum_by length) more ∙ sum_by-append length (lists_in (take k lists)) (list.items ∷ []) in
    let front = sum_of_front (k + 1) (lists_in lists) in
    let same : sum_by length (take (k + 1) (lists_in lists)) ≡ sum_by length (lists_in (take (k + 1) lists)) = ap (sum_by length) (take-map items (k + 1) lists) in
    omega (arith, sum, front, same, was, long)
