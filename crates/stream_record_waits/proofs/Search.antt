-- The search for the steps that a step reaches.
use Rattle.std.proofs.Common.{◌≡◌, ◌<◌, ◌≤◌, ◌+◌, ℕ, List, [], All, length, Some, false, true, sym, ap, ◌∙◌, ⊎_elim, arith, subst}
use Rattle.std.specs.Prelude.{slice_get}
use Rattle.std.specs.List.{Contains}
use Rattle.std.proofs.lemmas.Bool.{cases_lt, true≢false}
use Rattle.std.proofs.lemmas.List.Elements.{All-contains, All-contains_itself, All-nil, All-weaker}
use Rattle.std.proofs.lemmas.Option.{get_or_from_slice_get, slice_get-get_or, slice_get_within}
use Rattle.stream_record_waits.specs.declared.step_of_plan.StepOfPlan.{StepOfPlan}
use Rattle.stream_record_waits.specs.Graph.{Reaches, directly, passed_on, through, waits_at}
use Rattle.stream_record_waits.specs.Reached.{with_all}
use Rattle.stream_record_waits.specs.Steps.{is_done_before}
use Rattle.stream_record_waits.proofs.Members.{grows_all, has_all, keeps_all, only_all, stays_all}

-- What the first steps pass on, that many, was added.
pub record IsSearched (steps : List StepOfPlan) (graph : List (List ℕ)) (start line place : ℕ) (found : List ℕ) : Type 0 where
  pub within : place ≤ length found
  pub sound : All (Reaches steps graph start line) found
  pub begun : All (Contains found) (waits_at graph start)
  pub closed : (k step : ℕ) → k < place → slice_get found k ≡ Some step → is_done_before steps step line ≡ false → All (Contains found) (passed_on steps graph step)

module _ (steps : List StepOfPlan) (graph : List (List ℕ)) (start line : ℕ) where
  -- before the first step, when the waits of the start were added
  pub begins : (found : List ℕ) → found ≡ with_all [] (waits_at graph start) → IsSearched steps graph start line 0 found
  begins found is = subst (IsSearched steps graph start line 0) (sym is) (record {
    within = omega arith;
    sound = only_all (Reaches steps graph start line) (waits_at graph start) [] (All-nil (Reaches steps graph start line))
        (All-weaker (Contains (waits_at graph start)) (Reaches steps graph start line) (λ t c. directly t c) (waits_at graph start) (All-contains_itself (waits_at graph start)));
    begun = has_all (waits_at graph start) [];
    closed = λ k step before. absurd (omega (arith, before));
  })

  -- a step that was done passes nothing on
  pub goes_by_done : (place : ℕ) (found : List ℕ) (step : ℕ) → IsSearched steps graph start line place found
      → slice_get found place ≡ Some step → is_done_before steps step line ≡ true → IsSearched steps graph start line (place + 1) found
  goes_by_done place found step s here done = record {
    within = omega (arith, slice_get_within found place step here);
    sound = s.sound;
    begun = s.begun;
    closed = λ k other before at_k no. ⊎_elim
        (λ (lt : k < place). s.closed k other lt at_k no)
        (λ (ge : place ≤ k).
        let same : k ≡ place = omega (arith, before, ge) in
        let is : step ≡ other = cc (here, at_k, same) in
        absurd (true≢false (sym done ∙ ap (λ (s : ℕ). is_done_before steps s line) is ∙ no)))
        (cases_lt k place);
  }

  -- another step passes on
  pub goes_through : (place : ℕ) (found new : List ℕ) (step : ℕ) → IsSearched steps graph start line place found
      → slice_get found place ≡ Some step → is_done_before steps step line ≡ false → new ≡ with_all found (passed_on steps graph step)
      → IsSearched steps graph start line (place + 1) new
  goes_through place found new step s here plain is =
      let more = passed_on steps graph step in
      let inside = slice_get_within found place step here in
      let reached : Reaches steps graph start line step = subst (Reaches steps graph start line) (get_or_from_slice_get found place step step here) (s.sound place step inside) in
      subst (IsSearched steps graph start line (place + 1)) (sym is) (record {
        within = omega (arith, inside, grows_all more found);
        sound = only_all (Reaches steps graph start line) more found s.sound
            (All-weaker (Contains more) (Reaches steps graph start line) (λ t c. through step t reached plain c) more (All-contains_itself more));
        begun = All-weaker (Contains found) (Contains (with_all found more)) (λ t c. keeps_all more found t c) (waits_at graph start) s.begun;
        closed = λ k other before at_k plain.
            let inner : k < length found = omega (arith, before, inside) in
            let was : slice_get found k ≡ Some other = sym (stays_all more found k inner) ∙ at_k in
            ⊎_elim
            (λ (lt : k < place). All-weaker (Contains found) (Contains (with_all found more)) (λ t c. keeps_all more found t c) (passed_on steps graph other) (s.closed k other lt was plain))
            (λ (ge : place ≤ k).
            let same : k ≡ place = omega (arith, before, ge) in
            let it : step ≡ other = cc (here, was, same) in
            subst (λ (n : ℕ). All (Contains (with_all found more)) (passed_on steps graph n)) it (has_all more found))
            (cases_lt k place);
      })

  -- after the last step
  pub finds_all : (place : ℕ) (found : List ℕ) → IsSearched steps graph start line place found → length found ≤ place
      → (step : ℕ) → Reaches steps graph start line step → Contains found step
  finds_all place found s all to (directly _ edge) =
      All-contains (Contains found) (waits_at graph start) to s.begun edge
  finds_all place found s all to (through step _ path plain edge) =
      let c = finds_all place found s all step path in
      let here : slice_get found c.0 ≡ Some step = slice_get-get_or found c.0 step c.1 ∙ ap Some c.2 in
      All-contains (Contains found) (passed_on steps graph step) to (s.closed c.0 step (omega (arith, c.1, all)) here plain) edge
