-- The rounds of times are at most the number of turns that started before.
use Rattle.std.proofs.Common.{◌≡◌, ℕ, zero, suc, ◌<◌, ◌≤◌, true, false, List, [], ◌∷◌, Option, Some, None, cond, get_or, length, replicate, set, refl, sym, ap, ◌∙◌, ⊎_elim, ◌⊎◌, inl, inr, arith}
use Rattle.std.specs.Prelude.{option_map}
use Rattle.std.proofs.lemmas.Bool.{cases_eq}
use Rattle.std.proofs.lemmas.List.{get_or-set_other, get_or-set_same}
use Rattle.apply_model.specs.declared.script.wait.Wait.{Wait}
use Rattle.apply_events.specs.declared.lanes.lane_time.LaneTime.{LaneTime}
use Rattle.apply_events.specs.declared.lanes.turn.StartedTurn.{StartedTurn}
use Rattle.apply_events.specs.Step.{Step, Work}
use Rattle.apply_events.specs.StepEvents.{goes_on, step_time}
use Rattle.apply_events.specs.Waits.Done.{done_among, done_at, done_by, done_in, end_after, end_of_turn, first_some, later_if_both}
use Rattle.apply_events.specs.Waits.LaneTime.{first_lane_time, is_earlier, later_by, later_of, next_round}
use Rattle.apply_events.specs.Waits.Schedule.{Ready, first_earliest, first_ready, free_after, scheduled, started_in, with_next}
use Rattle.apply_events.specs.Waits.Turn.{begun_steps, turns, waits_of_turn}
use Rattle.apply_events.proofs.Waits.Free.{first_earliest_lt, length-free}
use Rattle.apply_events.proofs.Waits.Passing.{later_by_round}
use Rattle.apply_events.proofs.Waits.StartedTurns.{is_fit}
use Rattle.apply_events.proofs.Waits.TurnEvents.{done_first, done_if, done_later, done_in_turn}

end_round : (at : LaneTime) (steps : List Step) → (end_after at steps).round ≤ at.round
end_round at [] = omega arith
end_round at (s ∷ steps) =
    let rest = end_round (later_by (step_time s) at) steps in let here = later_by_round at (step_time s) in omega arith

done_round : (k : ℕ) (at : LaneTime) (steps : List Step) (m : LaneTime) → done_among k at steps ≡ Some m → m.round ≤ at.round
done_round k at [] m is = absurd cc
done_round k at (s ∷ steps) m is =
    let later = later_by_round at (step_time s) in ⊎_elim
    (λ (here : s.number ≡ k).
    let ends = done_if (goes_on s) (later_by (step_time s) at) m (sym (done_first k at s steps here) ∙ is) in
    let same = ap (λ (x : LaneTime). x.round) ends.1 in omega arith)
    (λ (other : s.number ≡ k → ⊥). let rest = done_round k (later_by (step_time s) at) steps m (sym (done_later k at s steps other) ∙ is) in omega arith)
    (cases_eq s.number k)

later_round : (a b : LaneTime) (bound : ℕ) → a.round ≤ bound → b.round ≤ bound → (later_of a b).round ≤ bound
later_round a b bound p q = elim (is_earlier a b) as (λ t. (cond t b a).round ≤ bound) [ true ↦ q | false ↦ p ]

abbrev DoneIn : Work → List StartedTurn → ℕ → Type 0
DoneIn w started bound = (name : Wait) (m : LaneTime) → done_at w started name ≡ Some m → m.round < bound

both_in : (a b : Option LaneTime) (at : LaneTime) (bound : ℕ) → ((m : LaneTime) → a ≡ Some m → m.round < bound) → ((m : LaneTime) → b ≡ Some m → m.round ≤ bound)
    → later_if_both (option_map next_round a) b ≡ Some at → at.round ≤ bound
both_in None b at bound p q is = absurd cc
both_in (Some a) None at bound p q is = absurd cc
both_in (Some a) (Some b) at bound p q is =
    let same : later_of (next_round a) b ≡ at = cc in
    let first = p a refl in
    let low = later_round (next_round a) b bound (omega arith) (q b refl) in
    let round = ap (λ (m : LaneTime). m.round) same in omega arith

ready_in : (w : Work) (started : List StartedTurn) (bound : ℕ) (names : List Wait) (at : LaneTime) → DoneIn w started bound → done_by w started names ≡ Some at → at.round ≤ bound
ready_in w started bound [] at done is = let same : first_lane_time ≡ at = cc in let round = ap (λ (m : LaneTime). m.round) same in omega arith
ready_in w started bound (name ∷ names) at done is =
    both_in (done_at w started name) (done_by w started names) at bound (done name) (λ m answer. ready_in w started bound names m done answer) is

first_cases : (a b : Option LaneTime) (m : LaneTime) → first_some a b ≡ Some m → (a ≡ Some m) ⊎ (b ≡ Some m)
first_cases None b m is = inr is
first_cases (Some a) b m is = inl is

free_none : (n lane : ℕ) → (get_or (replicate n first_lane_time) lane first_lane_time).round ≡ 0
free_none zero lane = refl
free_none (suc n) zero = refl
free_none (suc n) (suc lane) = free_none n lane

-- rounds are below the number of started turns, or equal to it
record AreLow (w : Work) (n : ℕ) (started : List StartedTurn) : Type 0 where
  pub done : DoneIn w started (length started)
  pub free : (lane : ℕ) → (get_or (free_after w n started) lane first_lane_time).round ≤ length started

module _ (w : Work) (n : ℕ) (some : 0 < n) where
  next_round_low : (started : List StartedTurn) (ready : Ready) → first_ready w started (turns w) ≡ Some ready → AreLow w n started → (started_in (free_after w n started) ready).begin.round ≤ length started
  next_round_low started ready answer low =
      let fit = is_fit w started (turns w) ready answer in
      later_round ready.at (get_or (free_after w n started) (first_earliest (free_after w n started)) first_lane_time) (length started)
      (ready_in w started (length started) (waits_of_turn w ready.turn) ready.at low.done fit.is_ready) (low.free (first_earliest (free_after w n started)))

  low_on : (started : List StartedTurn) (ready : Ready) → first_ready w started (turns w) ≡ Some ready → AreLow w n started → AreLow w n (started_in (free_after w n started) ready ∷ started)
  low_on started ready answer low =
      let free = free_after w n started in
      let one = started_in free ready in
      let lane = first_earliest free in
      let begins = next_round_low started ready answer low in
      let ends = end_round one.begin (begun_steps w one.turn) in
      let size : length free ≡ n = length-free w n started in
      let fits : lane < length free = first_earliest_lt free (omega arith) in
      record {
        done = λ name m is. ⊎_elim
            (λ (here : done_in w one name ≡ Some m).
            let there = done_in_turn w one name m here in
            let high = done_round name.step one.begin (begun_steps w one.turn) m there.among in omega arith)
            (λ (earlier : done_at w started name ≡ Some m). let less = low.done name m earlier in omega arith)
            (first_cases (done_in w one name) (done_at w started name) m is);
        free = λ other. ⊎_elim
            (λ (same : other ≡ lane).
            let at : get_or (set free lane (end_of_turn w one)) other first_lane_time ≡ end_of_turn w one =
            ap (λ l. get_or (set free lane (end_of_turn w one)) l first_lane_time) same ∙ get_or-set_same free lane (end_of_turn w one) first_lane_time fits in
            let round = ap (λ (m : LaneTime). m.round) at in omega arith)
            (λ (ne : other ≡ lane → ⊥).
            let round = ap (λ (m : LaneTime). m.round) (get_or-set_other free lane other (end_of_turn w one) first_lane_time ne) in let less = low.free other in omega arith)
            (cases_eq other lane);
      }

  low_next : (started : List StartedTurn) (answer : Option Ready) → first_ready w started (turns w) ≡ answer → AreLow w n started → AreLow w n (with_next w n started answer)
  low_next started None is low = low
  low_next started (Some ready) is low = low_on started ready is low

  are_low : (count : ℕ) → AreLow w n (scheduled w n count)
  are_low zero = record { done = λ name m is. absurd cc; free = λ lane. (let none = free_none n lane in omega arith) }
  are_low (suc count) = low_next (scheduled w n count) (first_ready w (scheduled w n count) (turns w)) refl (are_low count)

  -- each turn begins in a round that is at most the number of turns before it
  pub rounds : (count : ℕ) (ready : Ready) → first_ready w (scheduled w n count) (turns w) ≡ Some ready
      → (started_in (free_after w n (scheduled w n count)) ready).begin.round ≤ length (scheduled w n count)
  rounds count ready answer = next_round_low (scheduled w n count) ready answer (are_low count)
