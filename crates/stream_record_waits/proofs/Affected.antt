-- The turns that a round leaves as they were: those that wait for no step that ends in it.
use Rattle.std.proofs.Common.{◌≡◌, ◌≢◌, ◌∙◌, ◌+◌, ◌&&◌, ◌++◌, ℕ, List, [], ◌∷◌, Bool, true, false, cond, not, Option, None, Some, set, refl, sym, ap, subst, ◌⊎◌, inl, inr, ⊎_elim}
use Rattle.std.specs.Prelude.{is_some, option_map, option_to_list}
use Rattle.std.specs.List.{Contains}
use Rattle.std.proofs.lemmas.Bool.{and_parts, cases_Bool, cases_eq, not-true, true≢false}
use Rattle.std.proofs.lemmas.List.{get_or-set_other}
use Rattle.std.proofs.lemmas.List.Elements.{Contains-append_right}
use Rattle.stream_record_waits.specs.declared.course.LaneEnd.{LaneEnd}
use Rattle.stream_record_waits.specs.declared.course.ReadyTurn.{ReadyTurn}
use Rattle.stream_record_waits.specs.declared.lane_time.LaneTime.{LaneTime}
use Rattle.stream_record_waits.specs.Course.{Basis, Course, begins_turn, behind_at, done_at, done_by, end_at, goes_on, is_joined, is_pinned, is_put_back, later_if_both, next_of, ready_at, ready_turn, seconds_at, turn_waits, with_end, with_next, with_pin, with_turn}
use Rattle.stream_record_waits.specs.Graph.{waits_at}
use Rattle.stream_record_waits.specs.LaneTime.{later_by, next_round}
use Rattle.stream_record_waits.specs.ReadyTurns.{turn_of}
use Rattle.stream_record_waits.specs.Steps.{has_begun, step_before}
use Rattle.stream_record_waits.specs.Waiters.{all_waits}
use Rattle.stream_record_waits.proofs.Members.{front_or_further, further, in_front, no_member}

-- whether a number is a member
member : (x : ℕ) (xs : List ℕ) → Contains xs x ⊎ (Contains xs x → ⊥)
member x [] = inr (λ c. no_member x c)
member x (y ∷ ys) = ⊎_elim
    (λ (is : x ≡ y). inl (subst (λ (z : ℕ). Contains (y ∷ ys) z) (sym is) (in_front y ys)))
    (λ (ne : x ≢ y). ⊎_elim
    (λ (c : Contains ys x). inl (further y x ys c))
    (λ (no : Contains ys x → ⊥). inr (λ c. ⊎_elim (λ (is : y ≡ x). ne (sym is)) (λ (d : Contains ys x). no d) (front_or_further y x ys c)))
    (member x ys))
    (cases_eq x y)

module _ (basis : Basis) (course : Course) (begin : LaneTime) (lane step : ℕ) where
  -- a step that neither was put back nor got an end
  abbrev IsOther : ℕ → Type 0
  IsOther other = (other ≢ step) × (is_joined basis (step + 1) ≡ true → other ≢ step + 1)

  abbrev after : Course
  after = with_next basis course begin lane step

  first_end : (other : ℕ) (at : LaneTime) → other ≢ step → end_at (with_end course step at lane) other ≡ end_at course other
  first_end other at ne = get_or-set_other course.ends step other (Some (record { at = at; lane = lane })) None ne

  second_end : (b : Bool) → (b ≡ true → is_joined basis (step + 1) ≡ true) → (other : ℕ) (at then : LaneTime) → IsOther other
      → end_at (cond b (with_end (with_end course step at lane) (step + 1) then lane) (with_end course step at lane)) other ≡ end_at course other
  second_end true joined other at then ne =
      get_or-set_other (set course.ends step (Some (record { at = at; lane = lane }))) (step + 1) other (Some (record { at = then; lane = lane })) None (ne.1 (joined refl)) ∙ first_end other at ne.0
  second_end false joined other at then ne = first_end other at ne.0

  other_end : (other : ℕ) → IsOther other → end_at after other ≡ end_at course other
  other_end other ne = elim (is_put_back basis course step begin lane) as (λ b. end_at (cond b (with_pin course step) (with_turn basis course step begin lane)) other ≡ end_at course other) [
    | true ↦ refl
    | false ↦ second_end (goes_on basis step && is_joined basis (step + 1)) (λ both. (and_parts (goes_on basis step) (is_joined basis (step + 1)) both).1) other
        (later_by (seconds_at basis step) begin) (later_by (seconds_at basis (step + 1)) (later_by (seconds_at basis step) begin)) ne
  ]

  same_pins : (b : Bool) (at then : LaneTime) (other : ℕ) → is_pinned (cond b (with_end (with_end course step at lane) (step + 1) then lane) (with_end course step at lane)) other ≡ is_pinned course other
  same_pins true at then other = refl
  same_pins false at then other = refl

  other_pin : (other : ℕ) → other ≢ step → is_pinned after other ≡ is_pinned course other
  other_pin other ne = elim (is_put_back basis course step begin lane) as (λ b. is_pinned (cond b (with_pin course step) (with_turn basis course step begin lane)) other ≡ is_pinned course other) [
    | true ↦ get_or-set_other course.pinned step other true false ne
    | false ↦ same_pins (goes_on basis step && is_joined basis (step + 1)) (later_by (seconds_at basis step) begin) (later_by (seconds_at basis (step + 1)) (later_by (seconds_at basis step) begin)) other
  ]

  other_done : (other : ℕ) → IsOther other → done_at basis after other ≡ done_at basis course other
  other_done other ne =
      ap (λ (end : Option LaneEnd). let chosen : Option LaneTime = cond (goes_on basis other) (option_map (λ (e : LaneEnd). e.at) end) None in chosen) (other_end other ne)

  others_done : (steps : List ℕ) → ((other : ℕ) → Contains steps other → IsOther other) → done_by basis after steps ≡ done_by basis course steps
  others_done [] all = refl
  others_done (other ∷ steps) all =
      ap (λ (done : Option LaneTime). later_if_both (option_map next_round done) (done_by basis after steps)) (other_done other (all other (in_front other steps)))
      ∙ ap (later_if_both (option_map next_round (done_at basis course other))) (others_done steps (λ more c. all more (further other more steps c)))

  -- a turn waits for no others than it may
  may_wait : (turn other : ℕ) → Contains (turn_waits basis course turn) other → Contains (all_waits basis turn) other
  may_wait turn other = elim (is_pinned course turn) as (λ b. Contains (option_to_list (cond b (behind_at basis turn) None) ++ (option_to_list (step_before basis.steps turn) ++ waits_at basis.after turn)) other → Contains (all_waits basis turn) other) [
    | true ↦ λ c. c
    | false ↦ λ c. Contains-append_right (option_to_list (behind_at basis turn)) (option_to_list (step_before basis.steps turn) ++ waits_at basis.after turn) other c
  ]

  not_joined : (turn : ℕ) → begins_turn basis turn ≡ true → is_joined basis turn ≡ false
  not_joined turn begins = not-true (is_joined basis turn) (and_parts (has_begun basis.steps turn) (not (is_joined basis turn)) begins).1

  same_ready : (turn : ℕ) → turn ≢ step → ((other : ℕ) → Contains (all_waits basis turn) other → IsOther other) → ready_at basis after turn ≡ ready_at basis course turn
  same_ready turn ne all =
      ap (λ (b : Bool). let pin : Option ℕ = cond b (behind_at basis turn) None in done_by basis after (option_to_list pin ++ (option_to_list (step_before basis.steps turn) ++ waits_at basis.after turn))) (other_pin turn ne)
      ∙ others_done (turn_waits basis course turn) (λ other c. all other (may_wait turn other c))

  same_next : (turn : ℕ) → IsOther turn → ((other : ℕ) → Contains (all_waits basis turn) other → IsOther other) → next_of basis after turn ≡ next_of basis course turn
  same_next turn ne all =
      ap (λ (end : Option LaneEnd). let chosen : Option ReadyTurn = cond (is_some end) None (option_map (ready_turn turn) (ready_at basis after turn)) in chosen) (other_end turn ne)
      ∙ ap (λ (ready : Option LaneTime). let chosen : Option ReadyTurn = cond (is_some (end_at course turn)) None (option_map (ready_turn turn) ready) in chosen) (same_ready turn ne.0 all)

  same_turn : (turn : ℕ) → turn ≢ step → ((other : ℕ) → Contains (all_waits basis turn) other → IsOther other) → turn_of basis after turn ≡ turn_of basis course turn
  same_turn turn ne all = ⊎_elim
      (λ (yes : begins_turn basis turn ≡ true).
      let other : IsOther turn = (ne, λ joined same. true≢false (sym joined ∙ ap (is_joined basis) (sym same) ∙ not_joined turn yes)) in
      ap (λ (next : Option ReadyTurn). let chosen : Option ReadyTurn = cond (begins_turn basis turn) next None in chosen) (same_next turn other all))
      (λ (no : begins_turn basis turn ≡ false).
      ap (λ (b : Bool). let chosen : Option ReadyTurn = cond b (next_of basis after turn) None in chosen) no
      ∙ sym (ap (λ (b : Bool). let chosen : Option ReadyTurn = cond b (next_of basis course turn) None in chosen) no))
      (cases_Bool (begins_turn basis turn))

  -- a turn stays as it was, or it is that of the step, or it may wait for a step that ends
  pub data Change (turn : ℕ) : Type 0 where
    none : turn_of basis after turn ≡ turn_of basis course turn → Change turn
    own : turn ≡ step → Change turn
    waits : Contains (all_waits basis turn) step → Change turn
    waits_for_second : is_joined basis (step + 1) ≡ true → Contains (all_waits basis turn) (step + 1) → Change turn

  pub change_of : (turn : ℕ) → Change turn
  change_of turn = ⊎_elim
      (λ (same : turn ≡ step). own same)
      (λ (ne : turn ≢ step). ⊎_elim
      (λ (c : Contains (all_waits basis turn) step). waits c)
      (λ (not_first : Contains (all_waits basis turn) step → ⊥). ⊎_elim
      (λ (joined : is_joined basis (step + 1) ≡ true). ⊎_elim
      (λ (c : Contains (all_waits basis turn) (step + 1)). waits_for_second joined c)
      (λ (not_second : Contains (all_waits basis turn) (step + 1) → ⊥). none (same_turn turn ne (λ other c.
      (λ same. not_first (subst (λ (x : ℕ). Contains (all_waits basis turn) x) same c), λ _ same. not_second (subst (λ (x : ℕ). Contains (all_waits basis turn) x) same c)))))
      (member (step + 1) (all_waits basis turn)))
      (λ (alone : is_joined basis (step + 1) ≡ false). none (same_turn turn ne (λ other c.
      (λ same. not_first (subst (λ (x : ℕ). Contains (all_waits basis turn) x) same c), λ joined _. true≢false (sym joined ∙ alone)))))
      (cases_Bool (is_joined basis (step + 1))))
      (member step (all_waits basis turn)))
      (cases_eq turn step)
