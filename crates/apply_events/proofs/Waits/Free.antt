-- When lanes are free: by then all turns that they took up have ended.
use Rattle.std.proofs.Common.{◌≡◌, ◌≢◌, ℕ, zero, suc, ◌+◌, ◌<◌, All, true, false, List, [], ◌∷◌, Option, Some, None, cond, get_or, length, set, sym, ◌∙◌, subst, ⊎_elim, arith}
use Rattle.std.proofs.lemmas.Bool.{cases_eq}
use Rattle.std.proofs.lemmas.List.{get_or-set_other, get_or-set_same, length-replicate, length-set}
use Rattle.std.proofs.lemmas.List.Elements.{All-cons, All-nil, All-weaker}
use Rattle.std.specs.List.{list_all}
use Rattle.std.specs.Prelude.{not}
use Rattle.apply_events.specs.Step.{Work}
use Rattle.apply_events.specs.declared.lanes.turn.StartedTurn.{StartedTurn}
use Rattle.apply_events.specs.Waits.Done.{end_of_turn}
use Rattle.apply_events.specs.declared.lanes.lane_time.LaneTime.{LaneTime}
use Rattle.apply_events.specs.Waits.LaneTime.{IsNoLater, first_lane_time, is_earlier}
use Rattle.apply_events.specs.Waits.Schedule.{Ready, first_earliest, first_ready, free_after, scheduled, started_in, with_next}
use Rattle.apply_events.specs.Waits.Turn.{begun_steps, turns}
use Rattle.apply_events.proofs.Waits.Moments.{end_no_earlier, no_later_on, no_later_refl, second_no_later}

pub length-free : (w : Work) (n : ℕ) (started : List StartedTurn) → length (free_after w n started) ≡ n
length-free w n [] = length-replicate n first_lane_time
length-free w n (one ∷ others) = length-set (free_after w n others) one.lane (end_of_turn w one) ∙ length-free w n others

pub first_earliest_lt : (ms : List LaneTime) → 0 < length ms → first_earliest ms < length ms
first_earliest_lt [] some = absurd (omega arith)
first_earliest_lt (m ∷ []) some = omega arith
first_earliest_lt (m ∷ other ∷ ms) some =
    let rest : first_earliest (other ∷ ms) < length (other ∷ ms) = first_earliest_lt (other ∷ ms) (omega arith) in
    elim (list_all (λ o. not (is_earlier o m)) (other ∷ ms)) as (λ t. cond t 0 (first_earliest (other ∷ ms) + 1) < length (m ∷ other ∷ ms)) [
      | true ↦ omega arith
      | false ↦ omega arith
    ]

-- each has ended by the time from which on its lane is free
abbrev pub HaveEnded : (w : Work) (free : List LaneTime) → List StartedTurn → Type 0
HaveEnded w free started = All (λ one. IsNoLater (end_of_turn w one) (get_or free one.lane first_lane_time)) started

module _ (w : Work) (n : ℕ) (some : 0 < n) where
  -- one turn more, in the lane that is free first
  ended_on : (started : List StartedTurn) (ready : Ready) → HaveEnded w (free_after w n started) started
      → HaveEnded w (free_after w n (started_in (free_after w n started) ready ∷ started)) (started_in (free_after w n started) ready ∷ started)
  ended_on started ready ended =
      let free = free_after w n started in
      let lane = first_earliest free in
      let new = started_in free ready in
      let end = end_of_turn w new in
      let size : length free ≡ n = length-free w n started in
      let fits : lane < length free = first_earliest_lt free (omega arith) in
      let ends : IsNoLater (get_or free lane first_lane_time) end =
      no_later_on (get_or free lane first_lane_time) new.begin end (second_no_later ready.at (get_or free lane first_lane_time)) (end_no_earlier new.begin (begun_steps w new.turn)) in
      let HasEnded : List LaneTime → StartedTurn → Type 0 = λ ms one. IsNoLater (end_of_turn w one) (get_or ms one.lane first_lane_time) in
      All-cons (HasEnded (set free lane end)) new started
      (subst (IsNoLater end) (sym (get_or-set_same free lane end first_lane_time fits)) (no_later_refl end))
      (All-weaker (HasEnded free) (HasEnded (set free lane end))
      (λ one low. ⊎_elim
      (λ (is : one.lane ≡ lane).
      let here : IsNoLater (end_of_turn w one) (get_or free lane first_lane_time) = subst (λ l. IsNoLater (end_of_turn w one) (get_or free l first_lane_time)) is low in
      subst (λ l. IsNoLater (end_of_turn w one) (get_or (set free lane end) l first_lane_time)) (sym is)
      (subst (IsNoLater (end_of_turn w one)) (sym (get_or-set_same free lane end first_lane_time fits))
      (no_later_on (end_of_turn w one) (get_or free lane first_lane_time) end here ends)))
      (λ (ne : one.lane ≢ lane). subst (IsNoLater (end_of_turn w one)) (sym (get_or-set_other free lane one.lane end first_lane_time ne)) low)
      (cases_eq one.lane lane))
      started ended)

  ended_next : (started : List StartedTurn) (answer : Option Ready) → HaveEnded w (free_after w n started) started
      → HaveEnded w (free_after w n (with_next w n started answer)) (with_next w n started answer)
  ended_next started None ended = ended
  ended_next started (Some ready) ended = ended_on started ready ended

  pub have_ended : (count : ℕ) → HaveEnded w (free_after w n (scheduled w n count)) (scheduled w n count)
  have_ended zero = All-nil _
  have_ended (suc count) = ended_next (scheduled w n count) (first_ready w (scheduled w n count) (turns w)) (have_ended count)
