-- Lanes that were started: their events are the time line.
use Rattle.std.proofs.Common.{◌≡◌, ℕ, ◌+◌, ◌<◌, ◌≤◌, All, List, [], get_or, length, reverse, sum_by, sym, ap, ◌∙◌, subst, ⊎_elim, arith}
use Rattle.std.specs.List.{Contains}
use Rattle.std.proofs.lemmas.List.{reverse-reverse}
use Rattle.std.proofs.lemmas.List.Elements.{All-contains, All-contains_itself, All-nil, All-weaker}
use Rattle.std.proofs.lemmas.List.Sorted.{IsPermutation-reverse, sum_by-IsPermutation}
use Rattle.apply_events.specs.declared.lanes.turn.StartedTurn.{StartedTurn}
use Rattle.apply_events.specs.Fits.{IsOfPlan}
use Rattle.apply_events.specs.Lanes.LaneState.{HaveGoneOn, LaneState, count_left, left, line, emitted_by, unused}
use Rattle.apply_events.specs.Lanes.Startable.{IsStartable}
use Rattle.apply_events.specs.Lanes.Steady.{AreSteady, IsTimed, IsTimedTurn, Rises, when}
use Rattle.apply_events.specs.Step.{Work}
use Rattle.apply_events.specs.Waits.Merging.{merged, time_line}
use Rattle.apply_events.specs.Waits.Schedule.{schedule}
use Rattle.apply_events.specs.Waits.TimeLine.{lane_turns, lane_time_of, turn_events}
use Rattle.apply_events.specs.Waits.Turn.{turns}
use Rattle.apply_events.proofs.Waits.FewEvents.{few_left, emitted_of_plan}
use Rattle.apply_events.proofs.Waits.LanesRise.{lanes_rise}
use Rattle.apply_events.proofs.Waits.ManyLanes.{all_rise}
use Rattle.apply_events.proofs.Waits.Merge as merge
use Rattle.apply_events.proofs.Waits.Merge.{merged_same}
use Rattle.apply_events.proofs.Waits.Once.{lane_time_is}
use Rattle.apply_events.proofs.Waits.Reversed.{All-reverse, emitted_of}
use Rattle.apply_events.proofs.Waits.Rises.{merge_rises}
use Rattle.apply_events.proofs.Waits.Shares.{share, shares, two_each}
use Rattle.apply_events.proofs.Waits.Startable.{AllWithin, all_startable}
use Rattle.apply_events.proofs.Waits.StartedTurns.{were_started}
use Rattle.apply_events.proofs.Waits.TurnEvents.{of_turn}

module _ (w : Work) (n : ℕ) (some : 0 < n) (few : length w.plan.changes ≤ 10000) (within : AllWithin w) (started : List StartedTurn) (back : reverse started ≡ schedule w n) where
  is : started ≡ reverse (schedule w n)
  is = sym (reverse-reverse started) ∙ ap reverse back

  pub startable : All (IsStartable w) started
  startable = subst (All (IsStartable w)) (sym is) (All-reverse (IsStartable w) (schedule w n) (all_startable w n some few within))

  timed_turn : (one : StartedTurn) → Contains (schedule w n) one → IsTimedTurn w (lane_time_of (schedule w n)) one
  timed_turn one there =
      let up = were_started w n some in
      All-weaker (Contains (turn_events w one)) (IsTimed (lane_time_of (schedule w n)) one.begin)
      (λ e mine. ap (λ (m : _). m.round) (lane_time_is w (schedule w n) one e (record { known = up.known; once = up.once }) there (of_turn w one e mine)))
      (turn_events w one) (All-contains_itself (turn_events w one))

  pub timed : All (IsTimedTurn w (when started)) started
  timed =
      subst (λ l. All (IsTimedTurn w (lane_time_of l)) started) (sym back)
      (subst (All (IsTimedTurn w (lane_time_of (schedule w n)))) (sym is)
      (All-reverse (IsTimedTurn w (lane_time_of (schedule w n))) (schedule w n)
      (All-weaker (Contains (schedule w n)) (IsTimedTurn w (lane_time_of (schedule w n))) timed_turn (schedule w n) (All-contains_itself (schedule w n)))))

  -- ---- so many lanes

  module _ (states : List LaneState) (gone : HaveGoneOn w started n states) where
    line_is : (v : ℕ) → v < n → line w started (get_or states v unused) ≡ emitted_by w v started
    line_is v lt = sym (gone.each v lt).left

    rises : (v : ℕ) → Rises (when started) v (emitted_by w v started)
    rises v =
        subst (Rises (when started) v) (sym (emitted_of w v started (schedule w n) is))
        (subst (λ l. Rises (lane_time_of l) v (lane_turns w (schedule w n) v)) (sym back)
        (merge_rises (lane_time_of (schedule w n)) v (lane_turns w (schedule w n) v) (lanes_rise w n (schedule w n) (were_started w n some) 0 (v + 1) v (omega arith) (omega arith))))

    pub steady : AreSteady w started states
    steady v lt =
        let all = gone.all in
        let here = gone.each v (omega arith) in
        let s = get_or states v unused in record {
          number = here.number;
          rises = subst (Rises (when started) v) (sym (line_is v (omega arith))) (rises v);
          timed = ⊎_elim
              (λ (none : s.events ≡ []). subst (All (IsTimed (when started) s.begin)) (sym none) (All-nil (IsTimed (when started) s.begin)))
              (λ (turn : (one : StartedTurn) × Contains started one × (s.begin ≡ one.begin) × (s.events ≡ turn_events w one)).
              subst (λ m. All (IsTimed (when started) m) s.events) (sym turn.2)
              (subst (All (IsTimed (when started) turn.0.begin)) (sym turn.3) (All-contains (IsTimedTurn w (when started)) started turn.0 timed turn.1)))
              here.turn;
          over = here.over;
          of_plan = subst (All (IsOfPlan w.plan)) (sym (line_is v (omega arith))) (emitted_of_plan w v started within startable);
        }

    pub counted : 0 + sum_by (count_left w started) states ≤ 189180000
    counted =
        let all = gone.all in
        let left = few_left w started states within startable (λ v lt. ap length (line_is v (omega arith))) in
        let two = two_each w n (length (turns w)) in
        let same : shares w started ≡ shares w (schedule w n) =
        ap (shares w) is ∙ sum_by-IsPermutation (λ (x : StartedTurn). share w x.turn) (schedule w n) (reverse (schedule w n)) (IsPermutation-reverse (schedule w n)) in omega arith

    pub is_time_line : merged (when started) (length states) (left w started states) ≡ time_line w n
    is_time_line =
        ap (λ m. merged (when started) m (left w started states)) gone.all
        ∙ ap (λ l. merged (lane_time_of l) n (left w started states)) back
        ∙ merged_same (lane_time_of (schedule w n)) n (left w started states) (lane_turns w (schedule w n))
        (subst (λ l. (v : ℕ) → 0 ≤ v → v < 0 + n → merge.Rises (lane_time_of l) v (left w started states v)) back
        (subst (λ m. (v : ℕ) → 0 ≤ v → v < 0 + m → merge.Rises (when started) v (left w started states v)) gone.all (all_rise w started states steady)))
        (lanes_rise w n (schedule w n) (were_started w n some) 0 n)
        (λ v lt. line_is v lt ∙ emitted_of w v started (schedule w n) is)
