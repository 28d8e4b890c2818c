-- What a round leaves of the marks, and of the turns that are ready.
use Rattle.std.proofs.Common.{◌≡◌, ◌∙◌, ◌<◌, ◌+◌, ℕ, List, true, None, Option, Some, length, get_or, refl, sym, ap, subst, inl, inr}
use Rattle.std.specs.Prelude.{option_map}
use Rattle.std.proofs.lemmas.List.Elements.{All-contains}
use Rattle.stream_record_waits.specs.declared.course.Mark.{Mark}
use Rattle.stream_record_waits.specs.declared.course.ReadyTurn.{ReadyTurn}
use Rattle.stream_record_waits.specs.declared.lane_time.LaneTime.{LaneTime}
use Rattle.stream_record_waits.specs.declared.ready_turns.ReadyTurns.{ReadyTurns}
use Rattle.stream_record_waits.specs.Basis.{AreMarks, IsCourse}
use Rattle.stream_record_waits.specs.Course.{Basis, Course, after_next, after_round, begins_turn, first_ready, turns_of, with_next}
use Rattle.stream_record_waits.specs.LaneTime.{first_earliest, first_lane_time, later_of}
use Rattle.stream_record_waits.specs.ReadyTurns.{AreReadyTurns, AreRenewed, IsAffected, turn_in, turn_of}
use Rattle.stream_record_waits.specs.Waiters.{AreWaiters}
use Rattle.stream_record_waits.proofs.Affected.{Change, change_of, none, own, waits, waits_for_second}
use Rattle.stream_record_waits.proofs.AfterRound.{IsNextTurn, marks_stay, next_stays, next_turn}
use Rattle.stream_record_waits.proofs.InTime.{turns_known}

-- the turn whose first step is known
record HasStep (ready : Option ReadyTurn) (step : ℕ) : Type 0 where
  turn : ReadyTurn
  is : ready ≡ Some turn
  first : turn.step ≡ step

has_step : (ready : Option ReadyTurn) (step : ℕ) → Some step ≡ option_map (λ (turn : ReadyTurn). turn.step) ready → HasStep ready step
has_step None step is = cc
has_step (Some turn) step is = record { turn = turn; is = refl; first = cc }

pub no_step : (ready : Option ReadyTurn) → None ≡ option_map (λ (turn : ReadyTurn). turn.step) ready → ready ≡ None
no_step None is = refl
no_step (Some turn) is = cc

module _ (basis : Basis) (old new : Course) (step : ℕ) (some : Some step ≡ option_map (λ (turn : ReadyTurn). turn.step) (first_ready basis old (turns_of basis))) (round : new ≡ after_round basis old) where
  found : HasStep (first_ready basis old (turns_of basis)) step
  found = has_step (first_ready basis old (turns_of basis)) step some

  next : IsNextTurn basis old (turns_of basis) found.turn
  next = next_turn basis old (turns_of basis) found.turn found.is

  abbrev lane : ℕ
  lane = first_earliest old.free

  abbrev begin : LaneTime
  begin = later_of found.turn.at (get_or old.free (first_earliest old.free) first_lane_time)

  new_is : new ≡ with_next basis old begin lane found.turn.step
  new_is = round ∙ ap (after_next basis old) found.is

  pub step_known : step < length basis.steps
  step_known = subst (λ (s : ℕ). s < length basis.steps) found.first
      (All-contains (λ s. (s < length basis.steps) × (begins_turn basis s ≡ true)) (turns_of basis) found.turn.step (turns_known basis) next.among).0

  pub marks_after : (rounds : ℕ) → IsCourse basis rounds old → (marks : List Mark) → AreMarks basis old marks → AreMarks basis new marks
  marks_after rounds is marks are = subst (λ (course : Course). AreMarks basis course marks) (sym new_is)
      (marks_stay basis old (with_next basis old begin lane found.turn.step) (next_stays basis old begin lane found.turn.step next.none (is.follow found.turn.step next.none)) marks are)

  module _ (waiters : List (List ℕ)) (known : AreWaiters basis waiters) (before after : ReadyTurns) (are : AreReadyTurns basis old before)
      (renewed : AreRenewed basis new before after (IsAffected basis waiters step)) where
    turn_after : (other : ℕ) → other < length basis.steps → Change basis old begin lane step other → new ≡ with_next basis old begin lane step → turn_in after other ≡ turn_of basis new other
    turn_after other within (none same) is =
        renewed.stay other within (are.are other within ∙ sym same ∙ ap (λ (course : Course). turn_of basis course other) (sym is))
    turn_after other within (own same) is = renewed.renewed other within (inl same)
    turn_after other within (waits c) is = renewed.renewed other within (inr (inl (known.complete other step within c)))
    turn_after other within (waits_for_second joined c) is = renewed.renewed other within (inr (inr ((joined, known.complete other (step + 1) within c))))

    pub turns_after : AreReadyTurns basis new after
    turns_after = record {
      tree = renewed.tree;
      each = renewed.each ∙ are.each;
      are = λ other within. turn_after other within (change_of basis old begin lane step other) (new_is ∙ ap (with_next basis old begin lane) found.first);
    }
