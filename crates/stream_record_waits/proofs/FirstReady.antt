-- The turn that is ready first is the first of the turns of all steps.
use Rattle.std.proofs.Common.{◌≡◌, ◌≢◌, ◌∙◌, ◌<◌, ◌≤◌, ◌+◌, ℕ, zero, suc, List, ◌∷◌, Bool, true, false, cond, Option, None, Some, length, refl, sym, ap, arith, subst, ⊎_elim}
use Rattle.std.specs.Prelude.{filter, is_some, option_map}
use Rattle.std.specs.List.{range_with_len}
use Rattle.std.proofs.lemmas.Bool.{cases_Bool, cases_eq, true≢false}
use Rattle.std.proofs.lemmas.List.Elements.{All-contains}
use Rattle.stream_record_waits.specs.declared.course.LaneEnd.{LaneEnd}
use Rattle.stream_record_waits.specs.declared.course.ReadyTurn.{ReadyTurn}
use Rattle.stream_record_waits.specs.declared.ready_turns.ReadyTurns.{ReadyTurns}
use Rattle.stream_record_waits.specs.Course.{Basis, Course, begins_turn, earlier_of, end_at, first_ready, next_of, ready_at, ready_turn, turns_of}
use Rattle.stream_record_waits.specs.ReadyTurns.{AreReadyTurns, IsFirstIn, IsNoLaterIf, turn_of}
use Rattle.stream_record_waits.proofs.AfterRound.{earlier_is, next_is, next_turn}
use Rattle.stream_record_waits.proofs.InTime.{turns_known}
use Rattle.stream_record_waits.proofs.TurnOrder.{earlier_before_both, if_both, if_on}

module _ (basis : Basis) (course : Course) where
  -- the turns from a step on
  abbrev turns_from : (start count : ℕ) → List ℕ
  turns_from start count = filter (begins_turn basis) (range_with_len start count)

  begun : (start count : ℕ) → begins_turn basis start ≡ true
      → first_ready basis course (turns_from start (suc count)) ≡ earlier_of (next_of basis course start) (first_ready basis course (turns_from (start + 1) count))
  begun start count begins = ap (λ (b : Bool). first_ready basis course (cond b (start ∷ turns_from (start + 1) count) (turns_from (start + 1) count))) begins

  not_begun : (start count : ℕ) → begins_turn basis start ≡ false → first_ready basis course (turns_from start (suc count)) ≡ first_ready basis course (turns_from (start + 1) count)
  not_begun start count fails = ap (λ (b : Bool). first_ready basis course (cond b (start ∷ turns_from (start + 1) count) (turns_from (start + 1) count))) fails

  own_step : (step : ℕ) (turn : ReadyTurn) → next_of basis course step ≡ Some turn → turn.step ≡ step
  own_step step turn is = (next_is step (end_at course step) (ready_at basis course step) turn is).2

  from_start : (count start : ℕ) (turn : ReadyTurn) → first_ready basis course (turns_from start count) ≡ Some turn → start ≤ turn.step
  from_start zero start turn is = cc
  from_start (suc count) start turn is = ⊎_elim
      (λ (yes : begins_turn basis start ≡ true). ⊎_elim
      (λ (here : next_of basis course start ≡ Some turn). let own = own_step start turn here in omega (arith, own))
      (λ (more : first_ready basis course (turns_from (start + 1) count) ≡ Some turn). let low = from_start count (start + 1) turn more in omega (arith, low))
      (earlier_is (next_of basis course start) (first_ready basis course (turns_from (start + 1) count)) turn (sym (begun start count yes) ∙ is)))
      (λ (no : begins_turn basis start ≡ false).
      let low = from_start count (start + 1) turn (sym (not_begun start count no) ∙ is) in omega (arith, low))
      (cases_Bool (begins_turn basis start))

  least_from : (count start step : ℕ) → start ≤ step → step < start + count → begins_turn basis step ≡ true
      → IsNoLaterIf (first_ready basis course (turns_from start count)) (next_of basis course step)
  least_from zero start step low high begins = absurd (omega (arith, low, high))
  least_from (suc count) start step low high begins =
      let rest = first_ready basis course (turns_from (start + 1) count) in
      let both = earlier_before_both (next_of basis course start) rest (λ x y here more.
      let own = own_step start x here in
      let after = from_start count (start + 1) y more in
      omega (arith, own, after)) in ⊎_elim
      (λ (yes : begins_turn basis start ≡ true).
      subst (λ (o : Option ReadyTurn). IsNoLaterIf o (next_of basis course step)) (sym (begun start count yes)) (⊎_elim
      (λ (same : step ≡ start). subst (λ (s : ℕ). IsNoLaterIf (earlier_of (next_of basis course start) rest) (next_of basis course s)) (sym same) both.0)
      (λ (ne : step ≢ start). if_on (earlier_of (next_of basis course start) rest) rest (next_of basis course step) both.1
      (least_from count (start + 1) step (omega (arith, low, ne)) (omega (arith, high)) begins))
      (cases_eq step start)))
      (λ (no : begins_turn basis start ≡ false).
      let ne : step ≢ start = λ same. true≢false (sym begins ∙ ap (begins_turn basis) same ∙ no) in
      subst (λ (o : Option ReadyTurn). IsNoLaterIf o (next_of basis course step)) (sym (not_begun start count no))
      (least_from count (start + 1) step (omega (arith, low, ne)) (omega (arith, high)) begins))
      (cases_Bool (begins_turn basis start))

  turn_begins : (step : ℕ) → begins_turn basis step ≡ true → turn_of basis course step ≡ next_of basis course step
  turn_begins step begins = ap (λ (b : Bool). let chosen : Option ReadyTurn = cond b (next_of basis course step) None in chosen) begins

  no_turn : (step : ℕ) (turn : ReadyTurn) → begins_turn basis step ≡ false → turn_of basis course step ≡ Some turn → ⊥
  no_turn step turn fails is =
      let none : turn_of basis course step ≡ None = ap (λ (b : Bool). let chosen : Option ReadyTurn = cond b (next_of basis course step) None in chosen) fails in
      let bad : None ≡ Some turn = sym none ∙ is in
      cc

  module _ (turns : ReadyTurns) (are : AreReadyTurns basis course turns) (first : Option ReadyTurn) (is : IsFirstIn turns first) where
    -- none of the turns goes before the first
    below : (ready : Option ReadyTurn) → first_ready basis course (turns_of basis) ≡ ready → IsNoLaterIf first ready
    below None same = tt
    below (Some turn) same =
        let next = next_turn basis course (turns_of basis) turn same in
        let known = All-contains (λ step. (step < length basis.steps) × (begins_turn basis step ≡ true)) (turns_of basis) turn.step (turns_known basis) next.among in
        let size = are.each in
        let inside = known.0 in
        let here : next_of basis course turn.step ≡ Some turn =
        ap (λ (end : Option LaneEnd). let chosen : Option ReadyTurn = cond (is_some end) None (option_map (ready_turn turn.step) (ready_at basis course turn.step)) in chosen) next.none
        ∙ ap (option_map (ready_turn turn.step)) next.ready in
        subst (IsNoLaterIf first) (are.are turn.step known.0 ∙ turn_begins turn.step known.1 ∙ here) (is.least turn.step (omega (arith, size, inside)))

    -- and the first is one of the turns
    above : (one : Option ReadyTurn) → first ≡ one → IsNoLaterIf (first_ready basis course (turns_of basis)) one
    above None same = tt
    above (Some turn) same =
        let leaf = is.among turn same in
        let size = are.each in
        let low = leaf.within in
        let inside : leaf.step < length basis.steps = omega (arith, size, low) in
        let has : turn_of basis course leaf.step ≡ Some turn = sym (are.are leaf.step inside) ∙ leaf.has in ⊎_elim
        (λ (yes : begins_turn basis leaf.step ≡ true).
        subst (IsNoLaterIf (first_ready basis course (turns_of basis))) (sym (turn_begins leaf.step yes) ∙ has) (least_from (length basis.steps) 0 leaf.step (omega arith) (omega (arith, inside)) yes))
        (λ (no : begins_turn basis leaf.step ≡ false). absurd (no_turn leaf.step turn no has))
        (cases_Bool (begins_turn basis leaf.step))

    pub first_is_ready : first ≡ first_ready basis course (turns_of basis)
    first_is_ready = if_both first (first_ready basis course (turns_of basis)) (below (first_ready basis course (turns_of basis)) refl) (above first refl)
