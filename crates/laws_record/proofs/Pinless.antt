-- A schedule in which no turn is put back.
use Rattle.std.proofs.Common.{◌≡◌, ◌∙◌, ◌+◌, ◌*◌, ℕ, zero, suc, Bool, true, false, List, [], ◌∷◌, ◌++◌, Option, Some, None, ap, length, map, refl, replicate, sym}
use Rattle.std.specs.Prelude.{◌&&◌, if◌then◌else◌, is_some, not, option_map, option_to_list, slice_index_or}
use Rattle.std.specs.List.{range_with_len}
use Rattle.stream_record_waits.specs.declared.course.ReadyTurn.{ReadyTurn}
use Rattle.stream_record_waits.specs.declared.lane_time.LaneTime.{LaneTime}
use Rattle.stream_record_waits.specs.Course.{Basis, Course, after_next, after_round, after_rounds, behind_at, done_at, done_by, end_at, first_ready, is_pinned, earlier_of, later_if_both, next_of, pin_at, pinned_waits, ready_at, ready_turn, schedule, turn_waits, turns_of, with_end, with_pin, with_turn, with_wait}
use Rattle.stream_record_waits.specs.Graph.{waits_at}
use Rattle.stream_record_waits.specs.LaneTime.{first_earliest, next_round}
use Rattle.stream_record_waits.specs.Steps.{step_before}
use Rattle.laws_record.specs.Schedules.{IsInTime, KeepsTime, begin_of, waits_of, without_order}

-- ---- lists

all_false : (n i : ℕ) → slice_index_or (replicate n false) i false ≡ false
all_false zero i = refl
all_false (suc n) zero = refl
all_false (suc n) (suc i) = all_false n i

mapped : {A B : Type 0} (f g : A → B) → ((x : A) → f x ≡ g x) → (xs : List A) → map f xs ≡ map g xs
mapped f g same [] = refl
mapped f g same (x ∷ xs) = ap (λ y. y ∷ map f xs) (same x) ∙ ap (λ ys. g x ∷ ys) (mapped f g same xs)

never_and : (b : Bool) → (b && false) ≡ false
never_and true = refl
never_and false = refl

-- ---- no step is pinned

-- none of so many
abbrev IsFree : (count : ℕ) → Course → Type 0
IsFree count course = course.pinned ≡ replicate count false

free_step : (count : ℕ) (course : Course) (step : ℕ) → IsFree count course → is_pinned course step ≡ false
free_step count course step free = ap (λ (flags : List Bool). slice_index_or flags step false) free ∙ all_false count step

module _ (basis : Basis) where
  no_pin : (count : ℕ) (course : Course) (step : ℕ) → IsFree count course → pin_at basis course step ≡ None
  no_pin count course step free = ap (λ b. if b then behind_at basis step else None) (free_step count course step free)

  same_done : (course : Course) (steps : List ℕ) → done_by basis course steps ≡ done_by (without_order basis) course steps
  same_done course [] = refl
  same_done course (step ∷ steps) = ap (later_if_both (option_map next_round (done_at basis course step))) (same_done course steps)

module _ (basis : Basis) (count : ℕ) (course : Course) (free : IsFree count course) where
  same_waits : (step : ℕ) → turn_waits basis course step ≡ turn_waits (without_order basis) course step
  same_waits step =
      ap (λ pin. option_to_list pin ++ (option_to_list (step_before basis.steps step) ++ waits_at basis.after step))
      (no_pin basis count course step free ∙ sym (no_pin (without_order basis) count course step free))

  same_ready : (step : ℕ) → ready_at basis course step ≡ ready_at (without_order basis) course step
  same_ready step = ap (done_by basis course) (same_waits step) ∙ same_done basis course (turn_waits (without_order basis) course step)

  same_next : (step : ℕ) → next_of basis course step ≡ next_of (without_order basis) course step
  same_next step = ap (λ at. if is_some (end_at course step) then None else option_map (ready_turn step) at) (same_ready step)

  same_first : (steps : List ℕ) → first_ready basis course steps ≡ first_ready (without_order basis) course steps
  same_first [] = refl
  same_first (step ∷ steps) =
      ap (λ next. earlier_of next (first_ready basis course steps)) (same_next step)
      ∙ ap (earlier_of (next_of (without_order basis) course step)) (same_first steps)

-- ---- one round

module _ (basis : Basis) (course : Course) where
  same_after : (turn : Option ReadyTurn) → IsInTime basis course turn → after_next basis course turn ≡ after_next (without_order basis) course turn
  same_after None in_time = refl
  same_after (Some turn) in_time =
      let begin = begin_of course turn in
      let lane = first_earliest course.free in
      let started = with_turn basis course turn.step begin lane in
      ap (λ b. if b then with_pin course turn.step else started) in_time
      ∙ sym (ap (λ b. if b then with_pin course turn.step else started) (never_and (not (is_pinned course turn.step))))

  stays_if : (b : Bool) (step : ℕ) (at : LaneTime) (lane : ℕ) → (if b then with_end course step at lane else course).pinned ≡ course.pinned
  stays_if true step at lane = refl
  stays_if false step at lane = refl

module _ (basis : Basis) (count : ℕ) where
  stays_free : (course : Course) (turn : Option ReadyTurn) → IsFree count course → IsFree count (after_next (without_order basis) course turn)
  stays_free course None free = free
  stays_free course (Some turn) free =
      let begin = begin_of course turn in
      let lane = first_earliest course.free in
      let plain = without_order basis in
      ap (λ b. (if b then with_pin course turn.step else with_turn plain course turn.step begin lane).pinned) (never_and (not (is_pinned course turn.step)))
      ∙ stays_if plain (with_end course turn.step _ lane) _ (turn.step + 1) _ lane
      ∙ free

-- ---- all rounds

module _ (basis : Basis) (lanes : ℕ) (keeps : KeepsTime basis lanes) where
  same_rounds : (rounds : ℕ)
      → (after_rounds basis lanes rounds ≡ after_rounds (without_order basis) lanes rounds) × IsFree (length basis.steps) (after_rounds (without_order basis) lanes rounds)
  same_rounds zero = (refl, refl)
  same_rounds (suc rounds) =
      let before = same_rounds rounds in
      let course = after_rounds (without_order basis) lanes rounds in
      let turn = first_ready (without_order basis) course (turns_of basis) in (
        ap (after_round basis) before.0
            ∙ ap (after_next basis course) (same_first basis (length basis.steps) course before.1 (turns_of basis))
            ∙ same_after basis course turn (keeps rounds),
        stays_free basis (length basis.steps) course turn before.1,
      )

  pub no_pins : pinned_waits basis lanes ≡ waits_of basis
  no_pins =
      let all = same_rounds (2 * length basis.steps) in
      let free : IsFree (length basis.steps) (schedule basis lanes) = ap (λ (course : Course). course.pinned) all.0 ∙ all.1 in
      mapped (λ step. with_wait (pin_at basis (schedule basis lanes) step) (waits_at basis.after step)) (λ step. waits_at basis.after step)
      (λ step. ap (λ pin. with_wait pin (waits_at basis.after step)) (no_pin basis (length basis.steps) (schedule basis lanes) step free))
      (range_with_len 0 (length basis.steps))
