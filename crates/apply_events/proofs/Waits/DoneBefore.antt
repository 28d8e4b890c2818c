-- A turn that begins with the second step of its change starts after the first step, which has gone
-- on.
use Rattle.std.proofs.Common.{◌≡◌, ℕ, ◌+◌, ◌≤◌, true, ◌&&◌, List, [], ◌∷◌, Option, Some, None, sum_by, take, refl, sym, ap, ◌∙◌, subst, ⊎_elim, ◌⊎◌, inl, inr, arith}
use Rattle.std.specs.Prelude.{option_map, slice_get}
use Rattle.std.specs.List.{Contains, list_all}
use Rattle.std.proofs.lemmas.Bool.{cases_eq}
use Rattle.std.proofs.lemmas.List.Sums.{sum_by-cons}
use Rattle.apply_model.specs.declared.script.wait.Wait.{Wait}
use Rattle.apply_model.specs.Script.OutcomeMap.{outcome_of}
use Rattle.apply_events.specs.declared.lanes.lane_time.LaneTime.{LaneTime}
use Rattle.apply_events.specs.declared.lanes.turn.StartedTurn.{StartedTurn}
use Rattle.apply_events.specs.ChangeEvents.{first_time}
use Rattle.apply_events.specs.Step.{Step, Work, steps_of}
use Rattle.apply_events.specs.StepEvents.{goes_on, step_time}
use Rattle.apply_events.specs.Waits.Done.{done_among, done_at, done_by, done_in, first_some, later_if_both, ready_at}
use Rattle.apply_events.specs.Waits.LaneTime.{IsNoLater, later_by, later_of, next_round}
use Rattle.apply_events.specs.Waits.Turn.{begun_steps, single}
use Rattle.apply_events.proofs.Waits.Members.{in_head, in_tail}
use Rattle.apply_events.proofs.Waits.Moments.{first_no_later, later_by_second}
use Rattle.apply_events.proofs.Waits.TurnEvents.{done_first, done_if, done_later, done_in_turn}
use Rattle.apply_events.proofs.Waits.TurnSteps.{begun_of_change, step_at_number}

-- ---- the first of what it waits for is done

both_some : (a b : Option LaneTime) (at : LaneTime) → later_if_both (option_map next_round a) b ≡ Some at → (m : LaneTime) × (a ≡ Some m) × IsNoLater (next_round m) at
both_some None b at is = absurd cc
both_some (Some m) None at is = absurd cc
both_some (Some m) (Some b) at is =
    let same : later_of (next_round m) b ≡ at = cc in (m, refl, subst (IsNoLater (next_round m)) same (first_no_later (next_round m) b))

answer_cases : (a b : Option LaneTime) (m : LaneTime) → first_some a b ≡ Some m → (a ≡ Some m) ⊎ (b ≡ Some m)
answer_cases None b m is = inr is
answer_cases (Some a) b m is = inl is

pub done_in_one : (w : Work) (started : List StartedTurn) (name : Wait) (m : LaneTime) → done_at w started name ≡ Some m → (one : StartedTurn) × Contains started one × (done_in w one name ≡ Some m)
done_in_one w [] name m is = absurd cc
done_in_one w (one ∷ started) name m is = ⊎_elim
    (λ (here : done_in w one name ≡ Some m). (one, in_head one started, here))
    (λ (earlier : done_at w started name ≡ Some m). let rest = done_in_one w started name m earlier in (rest.0, in_tail one started rest.0 rest.1, rest.2))
    (answer_cases (done_in w one name) (done_at w started name) m is)

-- ---- a step that is done

-- it goes on, and took its time by then
done_time : (k : ℕ) (at : LaneTime) (steps : List Step) (m : LaneTime) → done_among k at steps ≡ Some m → (s : Step) × Contains steps s × (s.number ≡ k) × (goes_on s ≡ true) × (step_time s ≤ m.second)
done_time k at [] m is = absurd cc
done_time k at (s ∷ steps) m is = ⊎_elim
    (λ (here : s.number ≡ k).
    let ends = done_if (goes_on s) (later_by (step_time s) at) m (sym (done_first k at s steps here) ∙ is) in
    let second = ap (λ (x : LaneTime). x.second) ends.1 in let later = later_by_second at (step_time s) in
    let time : step_time s ≤ m.second = omega arith in
    (s, in_head s steps, here, ends.0, time))
    (λ (other : s.number ≡ k → ⊥).
    let rest = done_time k (later_by (step_time s) at) steps m (sym (done_later k at s steps other) ∙ is) in
    (rest.0, in_tail s steps rest.0 rest.1, rest.2, rest.3, rest.4))
    (cases_eq s.number k)

-- the first of some steps takes their first time
first_takes : (steps : List Step) (s : Step) → slice_get steps 0 ≡ Some s → sum_by step_time (take 1 steps) ≡ step_time s
first_takes [] s is = absurd cc
first_takes (x ∷ steps) s is =
    let same : x ≡ s = cc in
    let one : sum_by step_time (x ∷ []) ≡ step_time x + 0 = sum_by-cons step_time x [] in
    let time : step_time x ≡ step_time s = ap step_time same in
    let whole : step_time x + 0 ≡ step_time x = omega arith in
    one ∙ whole ∙ time

first_on : (steps : List Step) (s : Step) → slice_get steps 0 ≡ Some s → goes_on s ≡ true → list_all goes_on (take 1 steps) ≡ true
first_on [] s is on = absurd cc
first_on (x ∷ steps) s is on = let same : x ≡ s = cc in ap (λ t. t && true) (ap goes_on same ∙ on)

-- ---- a turn that begins with the second step

pub record IsAfterFirst (w : Work) (c : ℕ) (before : List StartedTurn) (begin : LaneTime) : Type 0 where
  pub one : StartedTurn
  pub there : Contains before one
  pub change : one.turn.change ≡ c
  pub step : (s : Step) × Contains (begun_steps w one.turn) s × (s.number ≡ 0)
  pub went_on : list_all goes_on (take 1 (steps_of w c)) ≡ true
  pub late : first_time w c ≤ begin.second

pub after_first : (w : Work) (c : ℕ) (before : List StartedTurn) (at begin : LaneTime) → ready_at w before (single c 1) ≡ Some at → IsNoLater at begin → IsAfterFirst w c before begin
after_first w c before at begin ready low =
    let name : Wait = record { change = c; step = 0 } in
    let both = both_some (done_at w before name) (done_by w before (outcome_of w.script c 1).after) at ready in
    let m = both.0 in
    let answer = done_in_one w before name m both.1 in
    let one = answer.0 in
    let there = done_in_turn w one name m answer.2 in
    let done = done_time 0 one.begin (begun_steps w one.turn) m there.among in
    let s = done.0 in
    let inside : Contains (steps_of w c) s = subst (λ k. Contains (steps_of w k) s) there.change (begun_of_change w one.turn s done.1) in
    let place : slice_get (steps_of w c) 0 ≡ Some s = ap (slice_get (steps_of w c)) (sym done.2) ∙ step_at_number w c s inside in
    let seconds = first_takes (steps_of w c) s place in
    let soon = both.2.0 in let begun = low.0 in let late = done.4 in
    record {
      one = one;
      there = answer.1;
      change = there.change;
      step = (s, done.1, done.2);
      went_on = first_on (steps_of w c) s place done.3;
      late = omega arith;
    }
