-- The events of a run without waits and hooks: when each comes, in which lane, and in what order.
use Rattle.std.proofs.Common.{◌≡◌, ◌∙◌, ◌==◌, ◌<◌, ◌≤◌, ℕ, zero, suc, All, true, false, List, [], ◌∷◌, cond, eqb, eq-eqb, length, refl, sym, ap, arith, subst, inl, ⊎_elim}
use Rattle.std.specs.List.{Contains}
use Rattle.std.proofs.lemmas.Bool.{and_from, and_parts, cases_eq, cases_lt, eqb-true}
use Rattle.std.proofs.lemmas.List.Elements.{All-append, All-contains, All-nil, All-weaker, Contains-append_left, Contains-append_right}
use Rattle.apply_events.specs.declared.event.Event.{Event}
use Rattle.apply_events.specs.ChangeEvents.{in_turn}
use Rattle.apply_events.specs.OfWorker.{of_worker}
use Rattle.apply_events.specs.Step.{Work, kinds_of}
use Rattle.apply_events.specs.StepEvents.{step_events, step_time}
use Rattle.apply_events.specs.Waits.TimeLine.{InOrder, IsTimeLine, Precedes, is_of_turn, lane_time_from, lane_time_of, lane_turns, turn_events}
use Rattle.apply_events.proofs.TimeLines.Merge.{all_parts}
use Rattle.apply_events.proofs.TimeLines.Order.{nobody_else}
use Rattle.apply_events.proofs.Waits.Members.{any_in, filter_in, in_any}
use Rattle.apply_events.proofs.Waits.Moments.{same_lane_time}
use Rattle.laws_queue.specs.Dealing.{NamesNone, change_begin, lane_of, started_change, started_changes, step_begin, step_end, steps_begun}
use Rattle.laws_queue.specs.OfRun.{has_events, is_end, is_of_step, is_start}
use Rattle.laws_queue.proofs.ChangeOrder.{IsOfChange, change_events, in_order, phase_most}
use Rattle.laws_queue.proofs.Frees.{lane_inside, length-free}
use Rattle.laws_queue.proofs.Ordered.{Ordered, ordered_append, ordered_of_filter}
use Rattle.laws_queue.proofs.Ranks.{Ranked, cross_all}
use Rattle.laws_queue.proofs.RunSchedule.{schedule_is, whole_steps}

module _ (work : Work) (unhooked : work.hooks ≡ []) (few : (c : ℕ) → length (kinds_of work.plan c) ≤ 2) (n : ℕ) where
  -- an event of a change, when and where the change runs
  pub record IsTimely (e : Event) : Type 0 where
    pub lane_is : e.worker ≡ lane_of work n e.change
    pub has : e.step < length (steps_begun work e.change)
    pub low : e.step ≤ 1
    pub start : is_start e.what ≡ true → e.at ≡ step_begin work n e.change e.step
    pub end : is_end e.what ≡ true → e.at ≡ step_end work n e.change e.step

  abbrev of_change : ℕ → List Event
  of_change c = change_events work unhooked c (few c) (lane_of work n c) (change_begin work n c)

  timely : (c : ℕ) (e : Event) → IsOfChange work unhooked c (few c) (lane_of work n c) (change_begin work n c) e → IsTimely e
  timely c e h =
      let same : e.change ≡ c = h.change in record {
        lane_is = h.lane_is ∙ ap (lane_of work n) (sym same);
        has = subst (λ x. e.step < length (steps_begun work x)) (sym same) h.has;
        low = h.low;
        start = λ is. h.start is ∙ ap (λ x. step_begin work n x e.step) (sym same);
        end = λ is. h.end is ∙ ap (λ x. step_end work n x e.step) (sym same);
      }

  turn_is : (c : ℕ) → turn_events work (started_change work n c) ≡ of_change c
  turn_is c = ap (λ steps. in_turn (step_events (lane_of work n c)) step_time steps (change_begin work n c)) (whole_steps work c)

  -- ---- one lane

  abbrev lane_events : (count lane : ℕ) → List Event
  lane_events count lane = lane_turns work (started_changes work n count) lane

  abbrev Before : (count : ℕ) → Event → Type 0
  Before count e = IsTimely e × (e.change < count)

  each_before : (count lane : ℕ) → All (Before count) (lane_events count lane)
  each_before zero lane = All-nil (Before zero)
  each_before (suc c) lane =
      let now = started_change work n c in
      let own = (in_order work unhooked c (few c) (lane_of work n c) (change_begin work n c)).each in
      let here : All (Before (suc c)) (turn_events work now) = subst (All (Before (suc c))) (sym (turn_is c))
      (All-weaker (IsOfChange work unhooked c (few c) (lane_of work n c) (change_begin work n c)) (Before (suc c)) (λ e h. (timely c e h, let same = h.change in omega arith)) (of_change c) own) in
      All-append (Before (suc c)) (lane_events c lane) (cond (eqb now.lane lane) (turn_events work now) [])
      (All-weaker (Before c) (Before (suc c)) (λ e h. (h.0, let lt = h.1 in omega arith)) (lane_events c lane) (each_before c lane))
      (elim (eqb now.lane lane) as (λ t. All (Before (suc c)) (cond t (turn_events work now) [])) [ true ↦ here | false ↦ All-nil (Before (suc c)) ])

  order_in : (count lane : ℕ) → Ordered Ranked (lane_events count lane)
  order_in zero lane = tt
  order_in (suc c) lane =
      let now = started_change work n c in
      let own = in_order work unhooked c (few c) (lane_of work n c) (change_begin work n c) in
      let Of : Event → Type 0 = λ e. e.change ≡ c in
      let each : All Of (of_change c) = All-weaker (IsOfChange work unhooked c (few c) (lane_of work n c) (change_begin work n c)) Of (λ e h. h.change) (of_change c) own.each in
      ordered_append Ranked (lane_events c lane) (cond (eqb now.lane lane) (turn_events work now) []) (order_in c lane)
      (elim (eqb now.lane lane) as (λ t. Ordered Ranked (cond t (turn_events work now) [])) [ true ↦ subst (Ordered Ranked) (sym (turn_is c)) own.order | false ↦ tt ])
      (cross_all (Before c) Of Ranked (lane_events c lane) (cond (eqb now.lane lane) (turn_events work now) [])
      (λ e f h is. let lt = h.1 in let low = h.0.low in let most = phase_most e.what in inl (omega arith)) (each_before c lane)
      (elim (eqb now.lane lane) as (λ t. All Of (cond t (turn_events work now) [])) [ true ↦ subst (All Of) (sym (turn_is c)) each | false ↦ All-nil Of ]))

  -- each step that begins has an event
  event_of : (count c k : ℕ) → c < count → k < length (steps_begun work c) → (e : Event) × Contains (lane_events count (lane_of work n c)) e × (e.change ≡ c) × (e.step ≡ k)
  event_of zero c k lt has = absurd (omega arith)
  event_of (suc count) c k lt has =
      let now = started_change work n count in
      let lane = lane_of work n c in
      let added = cond (eqb now.lane lane) (turn_events work now) [] in ⊎_elim
      (λ (same : count ≡ c).
      let own = in_order work unhooked c (few c) lane (change_begin work n c) in
      let its = own.begin k has in
      let change = All-contains (IsOfChange work unhooked c (few c) lane (change_begin work n c)) (of_change c) its.0 own.each its.1 in
      let here : added ≡ of_change c =
      ap (λ t. cond t (turn_events work now) []) (eq-eqb now.lane lane (ap (lane_of work n) same)) ∙ ap (λ x. turn_events work (started_change work n x)) same ∙ turn_is c in
      (its.0, Contains-append_right (lane_events count lane) added its.0 (subst (λ l. Contains l its.0) (sym here) its.1), change.change, its.2))
      (λ (other : count ≡ c → ⊥).
      let rest = event_of count c k (omega arith) has in
      (rest.0, Contains-append_left (lane_events count lane) added rest.0 rest.1, rest.2, rest.3))
      (cases_eq count c)

  -- ---- times of round 0

  round_is : (count : ℕ) (e : Event) → (lane_time_of (started_changes work n count) e).round ≡ 0
  round_is zero e = refl
  round_is (suc count) e =
      let now = started_change work n count in
      elim (is_of_turn now.turn e) as (λ t. (cond t (lane_time_from now.begin e) (lane_time_of (started_changes work n count) e)).round ≡ 0) [
        | true ↦ elim (eqb e.at now.begin.second) as (λ t. cond t now.begin.round 0 ≡ now.begin.round) [ true ↦ refl | false ↦ refl ]
        | false ↦ round_is count e
      ]

  second_is : (count : ℕ) (e : Event) → (lane_time_of (started_changes work n count) e).second ≡ e.at
  second_is zero e = refl
  second_is (suc count) e =
      let now = started_change work n count in
      elim (is_of_turn now.turn e) as (λ t. (cond t (lane_time_from now.begin e) (lane_time_of (started_changes work n count) e)).second ≡ e.at) [ true ↦ refl | false ↦ second_is count e ]

  -- no later, and at the same second in no higher lane
  abbrev pub IsBy : Event → Event → Type 0
  IsBy e f = (e.at ≤ f.at) × (e.at ≡ f.at → e.worker ≤ f.worker)

  is_by : (count : ℕ) (e f : Event) → Precedes (lane_time_of (started_changes work n count)) e f → IsBy e f
  is_by count e f p =
      let when = lane_time_of (started_changes work n count) in
      let first = second_is count e in let second = second_is count f in let low = p.0.0 in
      (omega arith, λ same. p.1 (same_lane_time (when e) (when f) (first ∙ same ∙ sym second) (round_is count e ∙ sym (round_is count f))))

  all_by : (count : ℕ) (es : List Event) → InOrder (lane_time_of (started_changes work n count)) es → Ordered IsBy es
  all_by count [] are = tt
  all_by count (e ∷ es) are = (All-weaker (Precedes (lane_time_of (started_changes work n count)) e) (IsBy e) (is_by count e) es are.0, all_by count es are.1)

  -- ---- the time line

  module _ (some : 0 < n) (none : NamesNone work) (events : List Event) (line : IsTimeLine work n events) where
    abbrev all : ℕ
    all = length work.plan.changes

    lane_is : (lane : ℕ) → lane < n → of_worker lane events ≡ lane_events all lane
    lane_is lane lt = line.interleaved.parts lane lt ∙ ap (λ started. lane_turns work started lane) (schedule_is work n none)

    pub in_time : Ordered IsBy events
    in_time = all_by all events (subst (λ started. InOrder (lane_time_of started) events) (schedule_is work n none) line.in_order)

    pub all_timely : All (Before all) events
    all_timely = all_parts (Before all) events (λ lane. ⊎_elim
        (λ (lt : lane < n). subst (All (Before all)) (sym (lane_is lane lt)) (each_before all lane))
        (λ (ge : n ≤ lane). subst (All (Before all)) (sym (nobody_else n events line.interleaved.named lane ge)) (All-nil (Before all)))
        (cases_lt lane n))

    pub in_lanes : (lane : ℕ) → lane < n → Ordered (λ e f. (e.worker == lane) ≡ true → (f.worker == lane) ≡ true → Ranked e f) events
    in_lanes lane lt = ordered_of_filter Ranked (λ e. e.worker == lane) events (subst (Ordered Ranked) (sym (lane_is lane lt)) (order_in all lane))

    pub lane_known : (c : ℕ) → lane_of work n c < n
    lane_known c = let lt = lane_inside work n some c in let size = length-free work n some c in omega arith

    -- a step has events if it begins
    pub has_begun : (c k : ℕ) → c < all → k < length (steps_begun work c) → has_events events c k ≡ true
    has_begun c k lt has =
        let its = event_of all c k lt has in
        let there : Contains (of_worker (lane_of work n c) events) its.0 = subst (λ l. Contains l its.0) (sym (lane_is (lane_of work n c) (lane_known c))) its.1 in
        let e = its.0 in
        any_in (is_of_step c k) events e (filter_in (λ f. f.worker == lane_of work n c) events e there).0
        (and_from (e.change == c) (e.step == k) (eq-eqb e.change c its.2) (eq-eqb e.step k its.3))

    pub begins_if : (c k : ℕ) → has_events events c k ≡ true → k < length (steps_begun work c)
    begins_if c k is =
        let its = in_any (is_of_step c k) events is in
        let e = its.0 in
        let both = and_parts (e.change == c) (e.step == k) its.2 in
        let change : e.change ≡ c = eqb-true e.change c both.0 in
        let step : e.step ≡ k = eqb-true e.step k both.1 in
        let h = All-contains (Before all) events e all_timely its.1 in
        subst (λ x. k < length (steps_begun work x)) change (subst (λ j. j < length (steps_begun work e.change)) step h.0.has)
