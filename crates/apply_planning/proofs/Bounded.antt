-- No object ends later than all told objects take together.
use Rattle.std.proofs.Common.{◌≡◌, ℕ, zero, suc, ◌+◌, ◌<◌, ◌≤◌, Bool, true, false, ◌||◌, List, [], ◌∷◌, Option, Some, None, cond, length, map, sum_by, refl, ap, ◌∙◌, subst, ⊎_elim, arith}
use Rattle.std.specs.List.{Contains, range_with_len}
use Rattle.std.specs.Prelude.{slice_get}
use Rattle.std.proofs.lemmas.List.Sums.{sum_by-cons}
use Rattle.apply_events.specs.declared.lanes.turn.StartedTurn.{StartedTurn}
use Rattle.apply_events.specs.declared.lanes.turn.Turn.{Turn}
use Rattle.apply_events.specs.Step.{Work}
use Rattle.apply_events.specs.StepEvents.{step_time}
use Rattle.apply_events.specs.Waits.Done.{end_of_turn}
use Rattle.apply_events.specs.Waits.Schedule.{Ready, first_ready, free_after, is_same_turn, is_started, schedule, scheduled, started_in, with_next}
use Rattle.apply_events.specs.Waits.Turn.{begun_steps, single, turns}
use Rattle.apply_events.proofs.Waits.Ends.{ends_by_total, time_of, total}
use Rattle.apply_events.proofs.Waits.Members.{in_cases, not_in_none}
use Rattle.apply_events.proofs.Waits.StartedTurns.{is_fit, same_itself}
use Rattle.apply_planning.specs.declared.told.Told.{Told}
use Rattle.apply_planning.specs.PlanningWork.{planning_work, seconds_in_all}
use Rattle.apply_planning.proofs.PlannedWork.{turns_are}
use Rattle.apply_planning.proofs.Started.{its_span}

-- ---- the times of turns that were not started

abbrev turn_time : Work → Turn → ℕ
turn_time w turn = sum_by step_time (begun_steps w turn)

abbrev time_left : Work → List StartedTurn → List Turn → ℕ
time_left w started [] = 0
time_left w started (turn ∷ ts) = cond (is_started started turn) 0 (turn_time w turn) + time_left w started ts

left_if : (t u : Bool) (k : ℕ) → cond (t || u) 0 k ≤ cond u 0 k
left_if true true k = omega arith
left_if true false k = omega arith
left_if false u k = omega arith

no_more_left : (w : Work) (one : StartedTurn) (started : List StartedTurn) (ts : List Turn) → time_left w (one ∷ started) ts ≤ time_left w started ts
no_more_left w one started [] = omega arith
no_more_left w one started (turn ∷ ts) =
    let here = left_if (is_same_turn one.turn turn) (is_started started turn) (turn_time w turn) in let rest = no_more_left w one started ts in omega arith

less_left : (w : Work) (one : StartedTurn) (started : List StartedTurn) (ts : List Turn) → Contains ts one.turn → is_started started one.turn ≡ false
    → time_left w (one ∷ started) ts + turn_time w one.turn ≤ time_left w started ts
less_left w one started [] there new = absurd (not_in_none one.turn there)
less_left w one started (turn ∷ ts) there new = ⊎_elim
    (λ (is : turn ≡ one.turn).
    let same : is_same_turn one.turn turn ≡ true = ap (is_same_turn one.turn) is ∙ same_itself one.turn in
    let before : cond (is_started started turn) 0 (turn_time w turn) ≡ turn_time w one.turn = ap (λ t. cond (is_started started t) 0 (turn_time w t)) is ∙ ap (λ b. cond b 0 (turn_time w one.turn)) new in
    let after : cond (is_same_turn one.turn turn || is_started started turn) 0 (turn_time w turn) ≡ 0 = ap (λ b. cond (b || is_started started turn) 0 (turn_time w turn)) same in
    let rest = no_more_left w one started ts in omega arith)
    (λ (later : Contains ts one.turn).
    let here = left_if (is_same_turn one.turn turn) (is_started started turn) (turn_time w turn) in let rest = less_left w one started ts later new in omega arith)
    (in_cases turn ts one.turn there)

module _ (w : Work) (n : ℕ) where
  bounded_next : (started : List StartedTurn) (answer : Option Ready) → first_ready w started (turns w) ≡ answer → total w started + time_left w started (turns w) ≤ time_left w [] (turns w)
      → total w (with_next w n started answer) + time_left w (with_next w n started answer) (turns w) ≤ time_left w [] (turns w)
  bounded_next started None is low = low
  bounded_next started (Some ready) is low =
      let fit = is_fit w started (turns w) ready is in
      let one = started_in (free_after w n started) ready in
      let sum : total w (one ∷ started) ≡ time_of w one + total w started = sum_by-cons (time_of w) one started in
      let less = less_left w one started (turns w) fit.is_known fit.is_new in omega arith

  bounded : (count : ℕ) → total w (scheduled w n count) + time_left w (scheduled w n count) (turns w) ≤ time_left w [] (turns w)
  bounded zero = let none : total w [] ≡ 0 = refl in omega arith
  bounded (suc count) = bounded_next (scheduled w n count) (first_ready w (scheduled w n count) (turns w)) refl (bounded count)

-- ---- of told objects

left_from : (told others : List Told) (c : ℕ) → ((k : ℕ) (one : Told) → slice_get others k ≡ Some one → slice_get told (c + k) ≡ Some one)
    → time_left (planning_work told) [] (map (λ k. single k 0) (range_with_len c (length others))) ≡ seconds_in_all others
left_from told [] c each = refl
left_from told (one ∷ others) c each =
    let rest = left_from told others (c + 1) (λ k x is. (let place : c + suc k ≡ c + 1 + k = omega arith in subst (λ j. slice_get told j ≡ Some x) place (each (suc k) x is))) in
    let here : c + 0 ≡ c = omega arith in
    let span = its_span told c one (subst (λ j. slice_get told j ≡ Some one) here (each 0 one refl)) 0 (record { second = 0; round = 0 }) in
    let sum = sum_by-cons (λ (x : Told). x.seconds) one others in omega arith

pub all_left : (told : List Told) → time_left (planning_work told) [] (turns (planning_work told)) ≡ seconds_in_all told
all_left told =
    ap (time_left (planning_work told) []) (turns_are told)
    ∙ left_from told told 0 (λ k x is. (let place : k ≡ 0 + k = omega arith in subst (λ j. slice_get told j ≡ Some x) place is))

pub ends_in_time : (told : List Told) (n : ℕ) (one : StartedTurn) → 0 < n → Contains (schedule (planning_work told) n) one → (end_of_turn (planning_work told) one).second ≤ seconds_in_all told
ends_in_time told n one some there =
    let w = planning_work told in
    let count = length (turns w) in
    let ends = ends_by_total w n some count one there in
    let low = bounded w n count in
    let all = all_left told in omega arith
