-- Lanes that emit their events one by one: the first of their next events is the first of the rest
-- of the time line.
use Rattle.std.proofs.Common.{◌≡◌, ◌≢◌, ℕ, zero, suc, ◌+◌, ◌<◌, ◌≤◌, All, true, false, ◌&&◌, ◌||◌, List, [], ◌∷◌, ◌++◌, Option, Some, None, drop, get_or, length, map, reverse, set, sum_by, refl, sym, ap, ◌∙◌, subst, ⊎_elim, arith, eqb, ltb, lt-ltb}
use Rattle.std.proofs.lemmas.Bool.{cases_Bool, cases_lt, true≢false}
use Rattle.std.proofs.lemmas.Bool.Decides.{eqb_tells}
use Rattle.std.proofs.lemmas.List.{drop_all, get_or-set_other, get_or-set_same, length-map, length-set}
use Rattle.std.proofs.lemmas.List.Elements.{All-cons, All-contains, All-head, All-nil, All-tail}
use Rattle.std.proofs.lemmas.List.Sums.{sum_by-set}
use Rattle.apply_events.specs.declared.event.Event.{Event}
use Rattle.apply_events.specs.declared.lanes.lane_time.LaneTime.{LaneTime}
use Rattle.apply_events.specs.declared.lanes.turn.StartedTurn.{StartedTurn}
use Rattle.apply_events.specs.Course.{GivesNext}
use Rattle.apply_events.specs.Fits.{IsOfPlan, latest_second}
use Rattle.apply_events.specs.Lanes.LaneState.{GoesOn, LaneState, EmitsNext, count_left, left, line, lane_time_in, never, next_lane_time, emitted_by, unused}
use Rattle.apply_events.specs.Lanes.Steady.{AreSteady, IsSteadyLane, IsTimed, IsTimedTurn, Rises}
use Rattle.apply_events.specs.Step.{Work}
use Rattle.apply_events.specs.Waits.Merging.{merged}
use Rattle.apply_events.specs.Waits.LaneTime.{IsNoLater, first_lane_time, is_earlier}
use Rattle.apply_events.specs.Waits.Schedule.{first_earliest}
use Rattle.apply_events.specs.Waits.TimeLine.{Precedes, lane_time_of, turn_events}
use Rattle.apply_events.proofs.Waits.Earliest.{IsFirstEarliest, earliest_is, earliest_keeps, earliest_start, earliest_takes, no_earlier_is}
use Rattle.apply_events.proofs.Waits.Merge.{AllRise, first_is, merged_none, not_before_itself, rises_named}
use Rattle.apply_events.proofs.Waits.Moments.{no_later_both, no_later_on, no_later_refl}
use Rattle.apply_events.proofs.Waits.Rises.{rises_merge, second_of, timed_is}

-- ---- the lane that comes first

earliest_located : (ms : List LaneTime) (i : ℕ) → (j : ℕ) × IsFirstEarliest ms (i + 1) j
earliest_located ms zero = (0, earliest_start ms)
earliest_located ms (suc i) =
    let so_far = earliest_located ms i in
    let next : i + 1 ≡ suc i = omega arith in
    let here = subst (λ n. IsFirstEarliest ms n so_far.0) next so_far.1 in ⊎_elim
    (λ (yes : is_earlier (get_or ms (suc i) first_lane_time) (get_or ms so_far.0 first_lane_time) ≡ true).
    let answer : (j : ℕ) × IsFirstEarliest ms (suc i + 1) j = (suc i, earliest_takes ms (suc i) so_far.0 here yes) in answer)
    (λ (no : is_earlier (get_or ms (suc i) first_lane_time) (get_or ms so_far.0 first_lane_time) ≡ false).
    let answer : (j : ℕ) × IsFirstEarliest ms (suc i + 1) j = (so_far.0, earliest_keeps ms (suc i) so_far.0 here no) in answer)
    (cases_Bool (is_earlier (get_or ms (suc i) first_lane_time) (get_or ms so_far.0 first_lane_time)))

pub first_is_earliest : (ms : List LaneTime) → 0 < length ms → IsFirstEarliest ms (length ms) (first_earliest ms)
first_is_earliest [] some = absurd (omega arith)
first_is_earliest (m ∷ ms) some =
    let answer = earliest_located (m ∷ ms) (length ms) in
    let all : length ms + 1 ≡ length (m ∷ ms) = omega arith in
    let here = subst (λ n. IsFirstEarliest (m ∷ ms) n answer.0) all answer.1 in
    subst (IsFirstEarliest (m ∷ ms) (length (m ∷ ms))) (earliest_is (m ∷ ms) (length (m ∷ ms)) answer.0 here refl) here

lane_time_at : (states : List LaneState) (v : ℕ) → v < length states → get_or (map next_lane_time states) v first_lane_time ≡ next_lane_time (get_or states v unused)
lane_time_at [] v lt = absurd (omega arith)
lane_time_at (s ∷ states) zero lt = refl
lane_time_at (s ∷ states) (suc v) lt = lane_time_at states v (omega arith)

-- the lane w comes first
pub record ComesFirst (states : List LaneState) (w : ℕ) : Type 0 where
  pub inside : w < length states
  pub least : (v : ℕ) → v < length states → is_earlier (next_lane_time (get_or states v unused)) (next_lane_time (get_or states w unused)) ≡ false
  pub lowest : (v : ℕ) → v < w → is_earlier (next_lane_time (get_or states w unused)) (next_lane_time (get_or states v unused)) ≡ true

pub comes_first : (states : List LaneState) (w : ℕ) → 0 < length states → w ≡ first_earliest (map next_lane_time states) → ComesFirst states w
comes_first states w some is =
    let ms = map next_lane_time states in
    let count : length ms ≡ length states = length-map states next_lane_time in
    let best = subst (IsFirstEarliest ms (length ms)) (sym is) (first_is_earliest ms (omega arith)) in
    let below = best.below in
    let inside : w < length states = omega arith in
    record {
      inside = inside;
      least = λ v lt.
          ap (λ m. is_earlier m (next_lane_time (get_or states w unused))) (sym (lane_time_at states v lt))
          ∙ ap (is_earlier (get_or ms v first_lane_time)) (sym (lane_time_at states w inside)) ∙ best.least v (omega arith);
      lowest = λ v lt.
          ap (λ m. is_earlier m (next_lane_time (get_or states v unused))) (sym (lane_time_at states w inside))
          ∙ ap (is_earlier (get_or ms w first_lane_time)) (sym (lane_time_at states v (omega arith))) ∙ best.first v lt;
    }

module _ (w : Work) (started : List StartedTurn) where
  abbrev at : Event → LaneTime
  at = lane_time_of (reverse started)

  -- ---- one lane

  -- after its next event, the lane still has to emit the rest
  pub line_emits : (before after : LaneState) (e : Event) (rest : List Event) → before.events ≡ e ∷ rest → GoesOn w started before rest after → line w started before ≡ e ∷ line w started after
  line_emits before after e [] events on =
      ap (λ es. es ++ emitted_by w before.number (drop before.place started)) events ∙ ap (λ es. e ∷ es) on.left
  line_emits before after e (f ∷ fs) events on =
      ap (λ es. es ++ emitted_by w before.number (drop before.place started)) events ∙ sym (ap (λ s. e ∷ line w started s) on)

  timed_on : (before after : LaneState) (e : Event) (rest : List Event) → before.events ≡ e ∷ rest → GoesOn w started before rest after
      → All (IsTimedTurn w at) started → All (IsTimed at before.begin) before.events → All (IsTimed at after.begin) after.events
  timed_on before after e [] events on turns timed = ⊎_elim
      (λ (none : after.events ≡ []). subst (All (IsTimed at after.begin)) (sym none) (All-nil (IsTimed at after.begin)))
      (λ (turn : (one : StartedTurn) × _ × (after.begin ≡ one.begin) × (after.events ≡ turn_events w one)).
      subst (λ m. All (IsTimed at m) after.events) (sym turn.2)
      (subst (All (IsTimed at turn.0.begin)) (sym turn.3) (All-contains (IsTimedTurn w at) started turn.0 turns turn.1)))
      on.turn
  timed_on before after e (f ∷ fs) events on turns timed =
      subst (λ (s : LaneState). All (IsTimed at s.begin) s.events) (sym on) (All-tail (IsTimed at before.begin) e (f ∷ fs) (subst (All (IsTimed at before.begin)) events timed))

  number_on : (before after : LaneState) (rest : List Event) → GoesOn w started before rest after → after.number ≡ before.number
  number_on before after [] on = on.number
  number_on before after (f ∷ fs) on = ap (λ (s : LaneState). s.number) on

  over_on : (before after : LaneState) (rest : List Event) → GoesOn w started before rest after → after.events ≡ [] → length started ≤ after.place
  over_on before after [] on = on.over
  over_on before after (f ∷ fs) on = λ none. absurd (let one : f ∷ fs ≡ [] = sym (ap (λ (s : LaneState). s.events) on) ∙ none in cc)

  steady_on : (lane : ℕ) (before after : LaneState) (e : Event) (rest : List Event) → All (IsTimedTurn w at) started → before.events ≡ e ∷ rest → GoesOn w started before rest after
      → IsSteadyLane w started lane before → IsSteadyLane w started lane after
  steady_on lane before after e rest turns events on h =
      let emits = line_emits before after e rest events on in record {
        number = number_on before after rest on ∙ h.number;
        rises = (subst (Rises at lane) emits h.rises).2;
        timed = timed_on before after e rest events on turns h.timed;
        over = over_on before after rest on;
        of_plan = All-tail (IsOfPlan w.plan) e (line w started after) (subst (All (IsOfPlan w.plan)) emits h.of_plan);
      }

  -- after the last event of its turn the lane has no turn left, unless one is under way
  line_none : (lane : ℕ) (s : LaneState) → IsSteadyLane w started lane s → s.events ≡ [] → line w started s ≡ []
  line_none lane s h none =
      ap (λ es. es ++ emitted_by w s.number (drop s.place started)) none ∙ ap (emitted_by w s.number) (drop_all s.place started (h.over none))

  -- it comes next when its next event does
  next_is : (lane : ℕ) (s : LaneState) (e : Event) (es : List Event) → IsSteadyLane w started lane s → s.events ≡ e ∷ es → next_lane_time s ≡ at e
  next_is lane s e es h events =
      ap (lane_time_in s.begin) events
      ∙ sym (timed_is (reverse started) s.begin e (All-head (IsTimed at s.begin) e es (subst (All (IsTimed at s.begin)) events h.timed)))

  in_time : (e : Event) → IsOfPlan w.plan e → is_earlier (at e) never ≡ true
  in_time e of =
      let second = second_of (reverse started) e in
      let early : e.at ≤ latest_second = of.in_time in
      let less : (at e).second < never.second = omega arith in
      ap (λ t. t || (eqb (at e).second never.second && ltb (at e).round never.round)) (lt-ltb (at e).second never.second less)

  -- ---- all lanes

  pub all_rise : (states : List LaneState) → AreSteady w started states → AllRise at (left w started states) 0 (length states)
  all_rise states steady v low high =
      let h = steady v (omega arith) in rises_merge at v (line w started (get_or states v unused)) h.rises

  steady_set : (states : List LaneState) (lane : ℕ) (s : LaneState) → AreSteady w started states → IsSteadyLane w started lane s → AreSteady w started (set states lane s)
  steady_set states lane s steady h v lt =
      let count : length (set states lane s) ≡ length states = length-set states lane s in ⊎_elim
      (λ (c : _ × (v ≡ lane)).
      subst (λ k. IsSteadyLane w started k (get_or (set states lane s) k unused)) (sym c.1)
      (subst (IsSteadyLane w started lane) (sym (get_or-set_same states lane s unused (let is = c.1 in omega arith))) h))
      (λ (c : _ × (v ≢ lane)). subst (IsSteadyLane w started v) (sym (get_or-set_other states lane v s unused c.1)) (steady v (omega arith)))
      (eqb_tells v lane)

  -- ---- the next event of all

  precedes_here : (lane : ℕ) (e : Event) (es : List Event) → Rises at lane (e ∷ es) → All (Precedes at e) es
  precedes_here lane e es h =
      let named = rises_named at lane es (rises_merge at lane es h.2) in
      let first = h.0 in
      λ k d lt. let who = named k d lt in (h.1 k d lt, λ _. omega arith)

  precedes_there : (v lane : ℕ) (e : Event) (s : LaneState) (events : List Event) → s.events ≡ events → IsSteadyLane w started v s → e.worker ≡ lane
      → is_earlier (next_lane_time s) (at e) ≡ false → (v < lane → is_earlier (at e) (next_lane_time s) ≡ true) → All (Precedes at e) (line w started s)
  precedes_there v lane e s [] events h worker least lowest = subst (All (Precedes at e)) (sym (line_none v s h events)) (All-nil (Precedes at e))
  precedes_there v lane e s (f ∷ fs) events h worker least lowest =
      let next = next_is v s f fs h events in
      let its : line w started s ≡ f ∷ (fs ++ emitted_by w s.number (drop s.place started)) = ap (λ es. es ++ emitted_by w s.number (drop s.place started)) events in
      let rises = subst (Rises at v) its h.rises in
      let rest = fs ++ emitted_by w s.number (drop s.place started) in
      let named = rises_named at v (f ∷ rest) (rises_merge at v (f ∷ rest) rises) in
      let late : IsNoLater (at e) (at f) = no_earlier_is (at f) (at e) (ap (λ m. is_earlier m (at e)) (sym next) ∙ least) in
      let later_events : All (λ g. IsNoLater (at f) (at g)) (f ∷ rest) = All-cons (λ g. IsNoLater (at f) (at g)) f rest (no_later_refl (at f)) rises.1 in
      subst (All (Precedes at e)) (sym its) (λ k d lt.
      let g = get_or (f ∷ rest) k d in
      let who = named k d lt in
      let low : IsNoLater (at f) (at g) = later_events k d lt in (
        no_later_on (at e) (at f) (at g) late low,
        λ same. ⊎_elim
            (λ (below : v < lane).
            let same_f : at e ≡ at f = no_later_both (at e) (at f) late (subst (IsNoLater (at f)) (sym same) low) in
            absurd (true≢false (sym (lowest below) ∙ ap (is_earlier (at e)) (next ∙ sym same_f) ∙ not_before_itself (at e))))
            (λ (above : lane ≤ v). omega arith)
            (cases_lt v lane),
      ))

  emitted_next : (states : List LaneState) (lane : ℕ) (s : LaneState) (e : Event) (rest : List Event) → AreSteady w started states → All (IsTimedTurn w at) started → ComesFirst states lane
      → (get_or states lane unused).events ≡ e ∷ rest → GoesOn w started (get_or states lane unused) rest s
      → merged at (length states) (left w started states) ≡ e ∷ merged at (length (set states lane s)) (left w started (set states lane s))
  emitted_next states lane s e rest steady turns first events on =
      let old = get_or states lane unused in
      let states' = set states lane s in
      let count : length states' ≡ length states = length-set states lane s in
      let inside = first.inside in
      let here = steady lane inside in
      let emits = line_emits old s e rest events on in
      let rises = subst (Rises at lane) emits here.rises in
      let worker : e.worker ≡ lane = rises.0 in
      let steady' = steady_set states lane s steady (steady_on lane old s e rest turns events on here) in
      let next = next_is lane old e rest here events in
      let mine : left w started states' lane ≡ line w started s = ap (line w started) (get_or-set_same states lane s unused inside) in
      first_is at (length states) (left w started states) (left w started states') e
      (all_rise states steady) (subst (λ n. AllRise at (left w started states') 0 n) count (all_rise states' steady')) (omega arith)
      (subst (λ k. left w started states k ≡ e ∷ left w started states' k) (sym worker) (emits ∙ ap (λ es. e ∷ es) (sym mine)))
      (λ v lt ne. ap (line w started) (sym (get_or-set_other states lane v s unused (λ is. ne (is ∙ sym worker)))))
      (λ v lt. ⊎_elim
      (λ (c : _ × (v ≡ lane)). subst (λ k. All (Precedes at e) (left w started states' k)) (sym c.1) (subst (All (Precedes at e)) (sym mine) (precedes_here lane e (line w started s) rises)))
      (λ (c : _ × (v ≢ lane)).
      let other = get_or states v unused in
      subst (λ t. All (Precedes at e) (line w started t)) (sym (get_or-set_other states lane v s unused c.1))
      (precedes_there v lane e other other.events refl (steady v lt) worker
      (sym (ap (is_earlier (next_lane_time other)) next) ∙ first.least v lt)
      (λ below. sym (ap (λ m. is_earlier m (next_lane_time other)) next) ∙ first.lowest v below)))
      (eqb_tells v lane))
      ∙ ap (λ n. e ∷ merged at n (left w started states')) (sym count)

  -- the lane that comes first has nothing, and so has none
  no_events : (v : ℕ) (s : LaneState) (events : List Event) → s.events ≡ events → IsSteadyLane w started v s → is_earlier (next_lane_time s) never ≡ false → line w started s ≡ []
  no_events v s [] events h least = line_none v s h events
  no_events v s (e ∷ es) events h least =
      let its : line w started s ≡ e ∷ (es ++ emitted_by w s.number (drop s.place started)) = ap (λ l. l ++ emitted_by w s.number (drop s.place started)) events in
      let of = All-head (IsOfPlan w.plan) e (es ++ emitted_by w s.number (drop s.place started)) (subst (All (IsOfPlan w.plan)) its h.of_plan) in
      absurd (true≢false (sym (in_time e of) ∙ sym (ap (λ m. is_earlier m never) (next_is v s e es h events)) ∙ least))

  emitted_none : (states : List LaneState) (lane : ℕ) → AreSteady w started states → ComesFirst states lane → (get_or states lane unused).events ≡ []
      → merged at (length states) (left w started states) ≡ []
  emitted_none states lane steady first none =
      let old = get_or states lane unused in
      let next : next_lane_time old ≡ never = ap (lane_time_in old.begin) none in
      merged_none at (length states) (left w started states) (λ v lt.
      let s = get_or states v unused in
      no_events v s s.events refl (steady v lt) (sym (ap (is_earlier (next_lane_time s)) next) ∙ first.least v lt))

  same_set : (states : List LaneState) (lane : ℕ) (s : LaneState) → s ≡ get_or states lane unused → set states lane s ≡ states
  same_set [] lane s is = refl
  same_set (x ∷ states) zero s is = ap (λ y. y ∷ states) is
  same_set (x ∷ states) (suc lane) s is = ap (λ l. x ∷ l) (same_set states lane s is)

  -- ---- together

  -- what one of the lanes does, of all
  pub record LanesEmit (states : List LaneState) (lane : ℕ) (result : Option Event) (emitted : ℕ) (states' : List LaneState) : Type 0 where
    pub next : GivesNext (merged at (length states) (left w started states)) result (merged at (length states') (left w started states'))
    pub steady : AreSteady w started states'
    pub all : length states' ≡ length states

  pub lanes_emit : (states : List LaneState) (lane : ℕ) (s : LaneState) (result : Option Event) (emitted : ℕ) → AreSteady w started states → All (IsTimedTurn w at) started → ComesFirst states lane
      → EmitsNext w started (get_or states lane unused) result s → LanesEmit states lane result emitted (set states lane s)
  lanes_emit states lane s None emitted steady turns first emits =
      let same = same_set states lane s emits.1 in
      let none = emitted_none states lane steady first emits.0 in record {
        next = (none, ap (λ l. merged at (length l) (left w started l)) same ∙ none);
        steady = subst (AreSteady w started) (sym same) steady;
        all = ap length same;
      }
  lanes_emit states lane s (Some e) emitted steady turns first emits =
      record {
        next = emitted_next states lane s e emits.0 steady turns first emits.1 emits.2;
        steady = steady_set states lane s steady (steady_on lane (get_or states lane unused) s e emits.0 turns emits.1 emits.2 (steady lane first.inside));
        all = length-set states lane s;
      }

  -- one event fewer is left
  pub one_fewer : (states : List LaneState) (lane : ℕ) (s : LaneState) (e : Event) (emitted : ℕ) → lane < length states → EmitsNext w started (get_or states lane unused) (Some e) s
      → emitted + sum_by (count_left w started) states ≤ 189180000 → emitted + 1 + sum_by (count_left w started) (set states lane s) ≤ 189180000
  one_fewer states lane s e emitted lt emits few =
      let sum = sum_by-set (count_left w started) states lane s unused lt in
      let more = ap length (line_emits (get_or states lane unused) s e emits.0 emits.1 emits.2) in omega arith

  pub no_more : (states : List LaneState) (lane : ℕ) (s : LaneState) (emitted : ℕ) → EmitsNext w started (get_or states lane unused) None s
      → emitted + sum_by (count_left w started) states ≤ 189180000 → emitted + sum_by (count_left w started) (set states lane s) ≤ 189180000
  no_more states lane s emitted emits few =
      let same = ap (sum_by (count_left w started)) (same_set states lane s emits.1) in omega arith

  pub next_of_plan : (states : List LaneState) (lane : ℕ) (s : LaneState) (e : Event) → lane < length states → AreSteady w started states
      → EmitsNext w started (get_or states lane unused) (Some e) s → IsOfPlan w.plan e
  next_of_plan states lane s e lt steady emits =
      All-head (IsOfPlan w.plan) e (line w started s) (subst (All (IsOfPlan w.plan)) (line_emits (get_or states lane unused) s e emits.0 emits.1 emits.2) (steady lane lt).of_plan)
