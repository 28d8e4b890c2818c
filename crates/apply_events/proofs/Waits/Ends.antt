-- When turns begin and end: no later than all turns before them take together.
use Rattle.std.proofs.Common.{◌≡◌, ℕ, zero, suc, ◌+◌, ◌<◌, ◌≤◌, true, false, List, [], ◌∷◌, Option, Some, None, cond, get_or, length, replicate, set, sum_by, refl, sym, ap, ◌∙◌, ⊎_elim, ◌⊎◌, inl, inr, arith}
use Rattle.std.specs.Prelude.{option_map}
use Rattle.std.specs.List.{Contains}
use Rattle.std.proofs.lemmas.Bool.{cases_eq}
use Rattle.std.proofs.lemmas.List.{get_or-set_other, get_or-set_same}
use Rattle.std.proofs.lemmas.List.Sums.{sum_by-cons}
use Rattle.apply_model.specs.declared.script.wait.Wait.{Wait}
use Rattle.apply_events.specs.declared.lanes.lane_time.LaneTime.{LaneTime}
use Rattle.apply_events.specs.declared.lanes.turn.StartedTurn.{StartedTurn}
use Rattle.apply_events.specs.Step.{Step, Work}
use Rattle.apply_events.specs.StepEvents.{goes_on, step_time}
use Rattle.apply_events.specs.Waits.Done.{done_among, done_at, done_by, done_in, end_after, end_of_turn, first_some, later_if_both}
use Rattle.apply_events.specs.Waits.LaneTime.{first_lane_time, is_earlier, later_by, later_of, next_round}
use Rattle.apply_events.specs.Waits.Schedule.{Ready, first_earliest, first_ready, free_after, scheduled, started_in, with_next}
use Rattle.apply_events.specs.Waits.Turn.{begun_steps, turns, waits_of_turn}
use Rattle.apply_events.proofs.Waits.Free.{first_earliest_lt, length-free}
use Rattle.apply_events.proofs.Waits.Members.{in_cases, not_in_none}
use Rattle.apply_events.proofs.Waits.Moments.{end_no_earlier, later_by_second}
use Rattle.apply_events.proofs.Waits.StartedTurns.{EachAfter, each_scheduled, is_fit}
use Rattle.apply_events.proofs.Waits.TurnEvents.{done_first, done_if, done_later, done_in_turn}

-- ---- how long turns take

abbrev pub time_of : Work → StartedTurn → ℕ
time_of w one = sum_by step_time (begun_steps w one.turn)

abbrev pub total : Work → List StartedTurn → ℕ
total w started = sum_by (time_of w) started

end_second : (at : LaneTime) (steps : List Step) → (end_after at steps).second ≡ at.second + sum_by step_time steps
end_second at [] = let none : sum_by step_time [] ≡ 0 = refl in omega arith
end_second at (s ∷ steps) =
    let rest = end_second (later_by (step_time s) at) steps in
    let here = later_by_second at (step_time s) in
    let sum : sum_by step_time (s ∷ steps) ≡ step_time s + sum_by step_time steps = sum_by-cons step_time s steps in
    omega arith

pub turn_end : (w : Work) (one : StartedTurn) → (end_of_turn w one).second ≡ one.begin.second + time_of w one
turn_end w one = end_second one.begin (begun_steps w one.turn)

-- a step is done no later than the last of the steps after it
done_by_end : (k : ℕ) (at : LaneTime) (steps : List Step) (m : LaneTime) → done_among k at steps ≡ Some m → m.second ≤ (end_after at steps).second
done_by_end k at [] m is = absurd cc
done_by_end k at (s ∷ steps) m is = ⊎_elim
    (λ (here : s.number ≡ k).
    let ends = done_if (goes_on s) (later_by (step_time s) at) m (sym (done_first k at s steps here) ∙ is) in
    let same = ap (λ (x : LaneTime). x.second) ends.1 in
    let low = (end_no_earlier (later_by (step_time s) at) steps).0 in omega arith)
    (λ (other : s.number ≡ k → ⊥). done_by_end k (later_by (step_time s) at) steps m (sym (done_later k at s steps other) ∙ is))
    (cases_eq s.number k)

-- ---- bounds

later_second : (a b : LaneTime) (bound : ℕ) → a.second ≤ bound → b.second ≤ bound → (later_of a b).second ≤ bound
later_second a b bound p q = elim (is_earlier a b) as (λ t. (cond t b a).second ≤ bound) [ true ↦ q | false ↦ p ]

abbrev DoneBy : Work → List StartedTurn → ℕ → Type 0
DoneBy w started bound = (name : Wait) (m : LaneTime) → done_at w started name ≡ Some m → m.second ≤ bound

both_by : (a b : Option LaneTime) (at : LaneTime) (bound : ℕ) → ((m : LaneTime) → a ≡ Some m → m.second ≤ bound) → ((m : LaneTime) → b ≡ Some m → m.second ≤ bound)
    → later_if_both (option_map next_round a) b ≡ Some at → at.second ≤ bound
both_by None b at bound p q is = absurd cc
both_by (Some a) None at bound p q is = absurd cc
both_by (Some a) (Some b) at bound p q is =
    let same : later_of (next_round a) b ≡ at = cc in
    let low = later_second (next_round a) b bound (p a refl) (q b refl) in
    let second = ap (λ (m : LaneTime). m.second) same in omega arith

ready_by : (w : Work) (started : List StartedTurn) (bound : ℕ) (names : List Wait) (at : LaneTime) → DoneBy w started bound → done_by w started names ≡ Some at → at.second ≤ bound
ready_by w started bound [] at done is = let same : first_lane_time ≡ at = cc in let second = ap (λ (m : LaneTime). m.second) same in omega arith
ready_by w started bound (name ∷ names) at done is =
    both_by (done_at w started name) (done_by w started names) at bound (done name) (λ m answer. ready_by w started bound names m done answer) is

first_cases : (a b : Option LaneTime) (m : LaneTime) → first_some a b ≡ Some m → (a ≡ Some m) ⊎ (b ≡ Some m)
first_cases None b m is = inr is
first_cases (Some a) b m is = inl is

free_none : (n lane : ℕ) → (get_or (replicate n first_lane_time) lane first_lane_time).second ≡ 0
free_none zero lane = refl
free_none (suc n) zero = refl
free_none (suc n) (suc lane) = free_none n lane

-- by the time that all of them take together, they are done and their lanes are free
record AreOver (w : Work) (n : ℕ) (started : List StartedTurn) : Type 0 where
  pub done : DoneBy w started (total w started)
  pub free : (lane : ℕ) → (get_or (free_after w n started) lane first_lane_time).second ≤ total w started

module _ (w : Work) (n : ℕ) (some : 0 < n) where
  -- the next one begins by then
  next_begins : (started : List StartedTurn) (ready : Ready) → first_ready w started (turns w) ≡ Some ready → AreOver w n started → (started_in (free_after w n started) ready).begin.second ≤ total w started
  next_begins started ready answer over =
      let fit = is_fit w started (turns w) ready answer in
      later_second ready.at (get_or (free_after w n started) (first_earliest (free_after w n started)) first_lane_time) (total w started)
      (ready_by w started (total w started) (waits_of_turn w ready.turn) ready.at over.done fit.is_ready) (over.free (first_earliest (free_after w n started)))

  over_on : (started : List StartedTurn) (ready : Ready) → first_ready w started (turns w) ≡ Some ready → AreOver w n started → AreOver w n (started_in (free_after w n started) ready ∷ started)
  over_on started ready answer over =
      let free = free_after w n started in
      let one = started_in free ready in
      let lane = first_earliest free in
      let begins = next_begins started ready answer over in
      let ends = turn_end w one in
      let sum : total w (one ∷ started) ≡ time_of w one + total w started = sum_by-cons (time_of w) one started in
      let size : length free ≡ n = length-free w n started in
      let fits : lane < length free = first_earliest_lt free (omega arith) in
      record {
        done = λ name m is. ⊎_elim
            (λ (here : done_in w one name ≡ Some m).
            let there = done_in_turn w one name m here in
            let low = done_by_end name.step one.begin (begun_steps w one.turn) m there.among in omega arith)
            (λ (earlier : done_at w started name ≡ Some m). let low = over.done name m earlier in omega arith)
            (first_cases (done_in w one name) (done_at w started name) m is);
        free = λ other. ⊎_elim
            (λ (same : other ≡ lane).
            let at : get_or (set free lane (end_of_turn w one)) other first_lane_time ≡ end_of_turn w one =
            ap (λ l. get_or (set free lane (end_of_turn w one)) l first_lane_time) same ∙ get_or-set_same free lane (end_of_turn w one) first_lane_time fits in
            let second = ap (λ (m : LaneTime). m.second) at in omega arith)
            (λ (ne : other ≡ lane → ⊥).
            let second = ap (λ (m : LaneTime). m.second) (get_or-set_other free lane other (end_of_turn w one) first_lane_time ne) in let low = over.free other in omega arith)
            (cases_eq other lane);
      }

  over_next : (started : List StartedTurn) (answer : Option Ready) → first_ready w started (turns w) ≡ answer → AreOver w n started → AreOver w n (with_next w n started answer)
  over_next started None is over = over
  over_next started (Some ready) is over = over_on started ready is over

  are_over : (count : ℕ) → AreOver w n (scheduled w n count)
  are_over zero = record { done = λ name m is. absurd cc; free = λ lane. (let none = free_none n lane in omega arith) }
  are_over (suc count) = over_next (scheduled w n count) (first_ready w (scheduled w n count) (turns w)) refl (are_over count)

  -- each begins no later than all before it take together
  pub each_begins : (count : ℕ) → EachAfter (λ before one. one.begin.second ≤ total w before) (scheduled w n count)
  each_begins = each_scheduled w n (λ before one. one.begin.second ≤ total w before) (λ count ready answer. next_begins (scheduled w n count) ready answer (are_over count))

  -- and ends no later than all together take
  ends_within : (started : List StartedTurn) (one : StartedTurn) → EachAfter (λ before one. one.begin.second ≤ total w before) started → Contains started one → (end_of_turn w one).second ≤ total w started
  ends_within [] one each there = absurd (not_in_none one there)
  ends_within (x ∷ started) one each there =
      let sum : total w (x ∷ started) ≡ time_of w x + total w started = sum_by-cons (time_of w) x started in ⊎_elim
      (λ (same : x ≡ one).
      let ends = turn_end w x in let begins = each.0 in
      let second = ap (λ (y : StartedTurn). (end_of_turn w y).second) same in omega arith)
      (λ (later : Contains started one). let rest = ends_within started one each.1 later in omega arith)
      (in_cases x started one there)

  pub ends_by_total : (count : ℕ) (one : StartedTurn) → Contains (scheduled w n count) one → (end_of_turn w one).second ≤ total w (scheduled w n count)
  ends_by_total count one there = ends_within (scheduled w n count) one (each_begins count) there
