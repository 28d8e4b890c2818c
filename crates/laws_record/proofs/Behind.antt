-- Behind which step a turn starts in a schedule.
use Rattle.std.proofs.Common.{◌≡◌, ◌∙◌, ◌⊎◌, ℕ, Bool, true, false, List, ◌∷◌, ◌++◌, Option, Some, None, ap, inl, inr, refl, subst, sym}
use Rattle.std.specs.Prelude.{IfSome, ◌&&◌, if◌then◌else◌, not, option_map, option_to_list}
use Rattle.std.specs.Option.{option_map_or}
use Rattle.stream_record_waits.specs.declared.course.ReadyTurn.{ReadyTurn}
use Rattle.stream_record_waits.specs.declared.lane_time.LaneTime.{LaneTime}
use Rattle.stream_record_waits.specs.Course.{Basis, Course, behind_at, done_at, done_by, end_at, ends_later, first_ready, is_pinned, is_put_back, later_if_both, pin_at, turn_waits}
use Rattle.stream_record_waits.specs.Graph.{waits_at}
use Rattle.stream_record_waits.specs.LaneTime.{IsNoLater, first_earliest, later_of, next_round}
use Rattle.stream_record_waits.specs.Steps.{step_before}
use Rattle.stream_record_waits.proofs.AfterRound.{next_turn}
use Rattle.stream_record_waits.proofs.Moments.{first_no_later, no_later_on}
use Rattle.laws_record.specs.Schedules.{StartsBehind, WaitsFor, begin_of}

-- steps that are all done are done one by one
later_done : (d r : Option LaneTime) (at : LaneTime) → later_if_both (option_map next_round d) r ≡ Some at
    → (done : LaneTime) × (d ≡ Some done) × IsNoLater (next_round done) at
later_done None r at is = cc
later_done (Some d) None at is = cc
later_done (Some d) (Some r) at is =
    let same : later_of (next_round d) r ≡ at = cc in
    (d, refl, subst (IsNoLater (next_round d)) same (first_no_later (next_round d) r))

module _ (basis : Basis) (course : Course) (turns : List ℕ) (turn : ReadyTurn) (ready : first_ready basis course turns ≡ Some turn)
    (starts : is_put_back basis course turn.step (begin_of course turn) (first_earliest course.free) ≡ false) where
  others : List ℕ
  others = option_to_list (step_before basis.steps turn.step) ++ waits_at basis.after turn.step

  waits : (other : ℕ) → behind_at basis turn.step ≡ Some other → is_pinned course turn.step ≡ true → WaitsFor basis course turn other
  unfolding others
  waits other is pinned =
      let pin : pin_at basis course turn.step ≡ Some other = ap (λ b. if b then behind_at basis turn.step else None) pinned ∙ is in
      let first : turn_waits basis course turn.step ≡ other ∷ others = ap (λ p. option_to_list p ++ others) pin in
      let found = later_done (done_at basis course other) (done_by basis course others) turn.at
      (sym (ap (done_by basis course) first) ∙ (next_turn basis course turns turn ready).ready) in
      record {
        pinned = pinned;
        done = found.0;
        is = found.1;
        later = no_later_on (next_round found.0) turn.at (begin_of course turn) found.2 (first_no_later turn.at _);
      }

  ended : (other : ℕ) → behind_at basis turn.step ≡ Some other → is_pinned course turn.step ≡ false
      → ends_later (end_at course other) (begin_of course turn) (first_earliest course.free) ≡ false
  ended other is free =
      let later : ℕ → Bool = λ o. ends_later (end_at course o) (begin_of course turn) (first_earliest course.free) in
      sym (ap (λ b. not b && option_map_or later (behind_at basis turn.step) false) free ∙ ap (λ o. option_map_or later o false) is) ∙ starts

  by_pin : (other : ℕ) → behind_at basis turn.step ≡ Some other → (b : Bool) → is_pinned course turn.step ≡ b
      → (ends_later (end_at course other) (begin_of course turn) (first_earliest course.free) ≡ false) ⊎ WaitsFor basis course turn other
  by_pin other is true pinned = inr (waits other is pinned)
  by_pin other is false free = inl (ended other is free)

  by_behind : (behind : Option ℕ) → behind_at basis turn.step ≡ behind
      → IfSome behind (λ other. (ends_later (end_at course other) (begin_of course turn) (first_earliest course.free) ≡ false) ⊎ WaitsFor basis course turn other)
  by_behind None is = tt
  by_behind (Some other) is = by_pin other is (is_pinned course turn.step) refl

  pub starts_behind : StartsBehind basis course turn
  starts_behind = by_behind (behind_at basis turn.step) refl
