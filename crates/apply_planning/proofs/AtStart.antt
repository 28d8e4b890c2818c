-- Lanes at their first objects: their events are the time line.
use Rattle.std.proofs.Common.{◌≡◌, ℕ, ◌+◌, ◌<◌, ◌≤◌, All, List, [], get_or, length, reverse, sym, ap, ◌∙◌, subst, ⊎_elim, arith}
use Rattle.std.specs.List.{Contains}
use Rattle.std.proofs.lemmas.List.{reverse-reverse}
use Rattle.std.proofs.lemmas.List.Elements.{All-contains, All-contains_itself, All-nil, All-weaker}
use Rattle.apply_events.specs.declared.event.Event.{Event}
use Rattle.apply_events.specs.declared.lanes.lane_time.LaneTime.{LaneTime}
use Rattle.apply_events.specs.declared.lanes.turn.StartedTurn.{StartedTurn}
use Rattle.apply_events.specs.declared.lanes.turn.Turn.{Turn}
use Rattle.apply_events.specs.Fits.{IsOfPlan}
use Rattle.apply_events.specs.Lanes.LaneState.{HaveGoneOn, LaneState, left, line, emitted_by, unused}
use Rattle.apply_events.specs.Lanes.Steady.{AreSteady, IsTimed, IsTimedTurn, Rises, when}
use Rattle.apply_events.specs.Step.{Work}
use Rattle.apply_events.specs.Waits.Merging.{merged, time_line}
use Rattle.apply_events.specs.Waits.Schedule.{schedule}
use Rattle.apply_events.specs.Waits.TimeLine.{lane_turns, lane_time_of, turn_events}
use Rattle.apply_events.specs.Waits.Turn.{single, turns}
use Rattle.apply_events.proofs.Waits.LanesRise.{lanes_rise, time_line_is}
use Rattle.apply_events.proofs.Waits.Located.{answer, lane_in}
use Rattle.apply_events.proofs.Waits.ManyLanes.{all_rise}
use Rattle.apply_events.proofs.Waits.Merge as merge
use Rattle.apply_events.proofs.Waits.Merge.{merged_same}
use Rattle.apply_events.proofs.Waits.Once.{lane_time_is}
use Rattle.apply_events.proofs.Waits.Reversed.{All-reverse, emitted_of}
use Rattle.apply_events.proofs.Waits.Rises.{merge_rises}
use Rattle.apply_events.proofs.Waits.Standing.{any_default}
use Rattle.apply_events.proofs.Waits.StartedTurns.{were_started}
use Rattle.apply_events.proofs.Waits.TurnEvents.{of_turn}
use Rattle.apply_events.proofs.Waits.TurnSteps.{all_at}
use Rattle.apply_planning.specs.declared.told.Told.{Told}
use Rattle.apply_planning.specs.Begun.{HasBegun, IsInTime}
use Rattle.apply_planning.specs.PlanningWork.{max_seconds_in_all, planning_work, seconds_in_all}
use Rattle.apply_planning.proofs.Bounded.{ends_in_time}
use Rattle.apply_planning.proofs.PlannedWork.{count_turns, planned_kind, turn_is_single}

module _ (told : List Told) (n : ℕ) (some : 0 < n) (short : seconds_in_all told ≤ max_seconds_in_all) where
  abbrev w : Work
  w = planning_work told

  turn_known : (turn : Turn) → Contains (turns (planning_work told)) turn → (turn.change < length told) × (turn ≡ single turn.change 0)
  turn_known turn there =
      let k = there.0 in
      let size = count_turns told in
      let low = there.1 in
      let lt : k < length told = omega arith in
      let is : turn ≡ single k 0 = sym there.2 ∙ any_default (turns w) k turn (record { change = 0; first = 0; count = 0 }) low ∙ turn_is_single told k lt in
      let change : turn.change ≡ k = ap (λ (t : Turn). t.change) is in
      (omega arith, is ∙ ap (λ j. single j 0) (sym change))

  pub one_begun : (one : StartedTurn) → Contains (schedule (planning_work told) n) one → HasBegun told one
  one_begun one there =
      let known = turn_known one.turn (all_at (λ (x : StartedTurn). Contains (turns w) x.turn) (schedule w n) one (were_started w n some).known there) in
      let ends = ends_in_time told n one some there in record {
        first = ap (λ (t : Turn). t.first) known.1;
        count = ap (λ (t : Turn). t.count) known.1;
        known = known.0;
        in_time = omega arith;
      }

  of_plan : (e : Event) (v : ℕ) → Contains (lane_turns w (schedule w n) v) e → IsOfPlan w.plan e
  of_plan e v there =
      let its = lane_in w (schedule w n) v e there in
      let begun = one_begun its.0 its.1 in
      let of = of_turn w its.0 e its.3 in
      let change = of.change in
      let known = begun.known in
      let high = of.high in
      let first = begun.first in
      let count = begun.count in
      let last = of.last.0 in
      let time = begun.in_time in
      let kinds = ap length (planned_kind told e.change (omega arith)) in
      record { has_step = omega arith; in_time = omega arith }

  all_in_time : All IsInTime (time_line (planning_work told) n)
  all_in_time =
      All-weaker (Contains (time_line w n)) IsInTime
      (λ e there.
      let its = answer w n (schedule w n) (time_line w n) (time_line_is w n some).interleaved e there in
      let last = its.of.last.0 in
      let time = (one_begun its.one its.there).in_time in omega arith)
      (time_line w n) (All-contains_itself (time_line w n))

  module _ (started : List StartedTurn) (back : reverse started ≡ schedule (planning_work told) n) where
    is : started ≡ reverse (schedule w n)
    is = sym (reverse-reverse started) ∙ ap reverse back

    pub begun : All (HasBegun told) started
    begun =
        subst (All (HasBegun told)) (sym is)
        (All-reverse (HasBegun told) (schedule w n) (All-weaker (Contains (schedule w n)) (HasBegun told) one_begun (schedule w n) (All-contains_itself (schedule w n))))

    timed_turn : (one : StartedTurn) → Contains (schedule w n) one → IsTimedTurn w (lane_time_of (schedule w n)) one
    timed_turn one there =
        let up = were_started w n some in
        All-weaker (Contains (turn_events w one)) (IsTimed (lane_time_of (schedule w n)) one.begin)
        (λ e mine. ap (λ (m : LaneTime). m.round) (lane_time_is w (schedule w n) one e (record { known = up.known; once = up.once }) there (of_turn w one e mine)))
        (turn_events w one) (All-contains_itself (turn_events w one))

    pub timed : All (IsTimedTurn (planning_work told) (when started)) started
    timed =
        subst (λ l. All (IsTimedTurn w (lane_time_of l)) started) (sym back)
        (subst (All (IsTimedTurn w (lane_time_of (schedule w n)))) (sym is)
        (All-reverse (IsTimedTurn w (lane_time_of (schedule w n))) (schedule w n)
        (All-weaker (Contains (schedule w n)) (IsTimedTurn w (lane_time_of (schedule w n))) timed_turn (schedule w n) (All-contains_itself (schedule w n)))))

    emitted_of_plan : (v : ℕ) → All (IsOfPlan w.plan) (emitted_by w v started)
    emitted_of_plan v =
        subst (All (IsOfPlan w.plan)) (sym (emitted_of w v started (schedule w n) is))
        (All-weaker (Contains (lane_turns w (schedule w n) v)) (IsOfPlan w.plan) (λ e there. of_plan e v there) (lane_turns w (schedule w n) v) (All-contains_itself (lane_turns w (schedule w n) v)))

    -- ---- so many lanes

    module _ (states : List LaneState) (gone : HaveGoneOn (planning_work told) started n states) where
      line_is : (v : ℕ) → v < n → line w started (get_or states v unused) ≡ emitted_by w v started
      line_is v lt = sym (gone.each v lt).left

      rises : (v : ℕ) → Rises (when started) v (emitted_by w v started)
      rises v =
          subst (Rises (when started) v) (sym (emitted_of w v started (schedule w n) is))
          (subst (λ l. Rises (lane_time_of l) v (lane_turns w (schedule w n) v)) (sym back)
          (merge_rises (lane_time_of (schedule w n)) v (lane_turns w (schedule w n) v) (lanes_rise w n (schedule w n) (were_started w n some) 0 (v + 1) v (omega arith) (omega arith))))

      pub steady : AreSteady (planning_work told) started states
      steady v lt =
          let all = gone.all in
          let here = gone.each v (omega arith) in
          let s = get_or states v unused in record {
            number = here.number;
            rises = subst (Rises (when started) v) (sym (line_is v (omega arith))) (rises v);
            timed = ⊎_elim
                (λ (none : s.events ≡ []). subst (All (IsTimed (when started) s.begin)) (sym none) (All-nil (IsTimed (when started) s.begin)))
                (λ (turn : (one : StartedTurn) × Contains started one × (s.begin ≡ one.begin) × (s.events ≡ turn_events w one)).
                subst (λ m. All (IsTimed (when started) m) s.events) (sym turn.2)
                (subst (All (IsTimed (when started) turn.0.begin)) (sym turn.3) (All-contains (IsTimedTurn w (when started)) started turn.0 timed turn.1)))
                here.turn;
            over = here.over;
            of_plan = subst (All (IsOfPlan w.plan)) (sym (line_is v (omega arith))) (emitted_of_plan v);
          }

      pub is_time_line : merged (when started) (length states) (left (planning_work told) started states) ≡ time_line (planning_work told) n
      is_time_line =
          ap (λ m. merged (when started) m (left w started states)) gone.all
          ∙ ap (λ l. merged (lane_time_of l) n (left w started states)) back
          ∙ merged_same (lane_time_of (schedule w n)) n (left w started states) (lane_turns w (schedule w n))
          (subst (λ l. (v : ℕ) → 0 ≤ v → v < 0 + n → merge.Rises (lane_time_of l) v (left w started states v)) back
          (subst (λ m. (v : ℕ) → 0 ≤ v → v < 0 + m → merge.Rises (when started) v (left w started states v)) gone.all (all_rise w started states steady)))
          (lanes_rise w n (schedule w n) (were_started w n some) 0 n)
          (λ v lt. line_is v lt ∙ emitted_of w v started (schedule w n) is)

      pub early : All IsInTime (merged (when started) (length states) (left (planning_work told) started states))
      early = subst (All IsInTime) (sym is_time_line) all_in_time
