-- The states of steps, one after the other.
use Rattle.std.proofs.Common.{◌≡◌, ◌∙◌, ◌+◌, ◌-◌, ◌&&◌, ltb, ℕ, zero, suc, List, [], ◌∷◌, ◌++◌, Bool, true, not, length, get_or, refl, sym, ap, arith}
use Rattle.std.proofs.lemmas.Bool.{lt-ltb}
use Rattle.std.proofs.lemmas.List.FromFn.{get_or-map-range_with_len, length-map-range_with_len, map-range_with_len_more}
use Rattle.stream_record_waits.specs.declared.step_state.StepState.{StepState}
use Rattle.stream_record_waits.specs.declared.step_state.StepState.TheVariants.{Began}
use Rattle.stream_record_waits.specs.declared.step_of_plan.StepOfPlan.{StepOfPlan}
use Rattle.stream_record_waits.specs.Graph.{waits_at}
use Rattle.stream_record_waits.specs.States.{ends_change, first_states, has_ended, state_at, state_of}
use Rattle.stream_record_waits.specs.Steps.{step_at}

module _ (steps : List StepOfPlan) (after : List (List ℕ)) where
  pub size_of_states : (count : ℕ) → length (first_states steps after count) ≡ count
  size_of_states count = length-map-range_with_len (state_at steps after) 0 count

  from_before : (step : ℕ) (states : List StepState) → states ≡ first_states steps after step → state_of steps (waits_at after step) step (has_ended steps states step) ≡ state_at steps after step
  from_before zero states is = refl
  from_before (suc step) states is =
      let before : get_or states (suc step - 1) Began ≡ state_at steps after step =
      ap (λ (list : List StepState). get_or list (suc step - 1) Began) is
      ∙ get_or-map-range_with_len (state_at steps after) 0 (suc step) (suc step - 1) step Began (omega arith) (omega arith) in
      let more : ltb 0 (suc step) ≡ true = lt-ltb 0 (suc step) (omega arith) in
      ap (λ (b : Bool). state_of steps (waits_at after (suc step)) (suc step) (b && (not (step_at steps (suc step)).is_first && ends_change (get_or states (suc step - 1) Began)))) more
      ∙ ap (λ (state : StepState). state_of steps (waits_at after (suc step)) (suc step) (not (step_at steps (suc step)).is_first && ends_change state)) before

  -- one state more
  pub more_states : (step : ℕ) (states new : List StepState) (row : List ℕ) (ended : Bool) (state : StepState) → states ≡ first_states steps after step → row ≡ waits_at after step
      → ended ≡ has_ended steps states step → state ≡ state_of steps row step ended → new ≡ states ++ state ∷ [] → new ≡ first_states steps after (step + 1)
  more_states step states new row ended state is is_row is_ended is_state grown =
      let same : state ≡ state_at steps after step =
      is_state ∙ ap (λ (r : List ℕ). state_of steps r step ended) is_row ∙ ap (state_of steps (waits_at after step) step) is_ended ∙ from_before step states is in
      grown ∙ ap (λ (list : List StepState). list ++ state ∷ []) is ∙ ap (λ (s : StepState). first_states steps after step ++ s ∷ []) same
      ∙ sym (map-range_with_len_more (state_at steps after) 0 step step (omega arith))
