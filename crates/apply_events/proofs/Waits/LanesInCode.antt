-- Lanes in the code, by the events that they still have to emit.
use Rattle.std.proofs.Common.{◌≡◌, ℕ, zero, suc, ◌+◌, ◌<◌, ◌≤◌, All, List, [], ◌∷◌, ◌++◌, Option, Some, None, get_or, length, length-append, map, set, sum_by, refl, sym, ap, ◌∙◌, subst, ⊎_elim, arith}
use Rattle.std.specs.Prelude.{IfSome}
use Rattle.std.proofs.lemmas.Bool.{cases_lt}
use Rattle.std.proofs.lemmas.List.{get_or_append_left, get_or_at, length-map, length-set, map-append, map-set}
use Rattle.apply_events.specs.declared.event.Event.{Event}
use Rattle.apply_events.specs.declared.lanes.lane.Lane.{Lane}
use Rattle.apply_events.specs.declared.lanes.lane_time.LaneTime.{LaneTime}
use Rattle.apply_events.specs.declared.lanes.turn.StartedTurn.{StartedTurn}
use Rattle.apply_events.specs.Course.{GivesNext}
use Rattle.apply_events.specs.Fits.{IsOfPlan}
use Rattle.apply_events.specs.Lanes.Lane.{state_of}
use Rattle.apply_events.specs.Lanes.LaneState.{HasGoneOn, HaveGoneOn, LaneState, EmitsNext, count_left, left, next_lane_time, unused}
use Rattle.apply_events.specs.Lanes.Steady.{AreSteady, IsTimedTurn, when}
use Rattle.apply_events.specs.Step.{Work}
use Rattle.apply_events.specs.Waits.Merging.{merged}
use Rattle.apply_events.specs.Waits.LaneTime.{first_lane_time}
use Rattle.apply_events.specs.Waits.Schedule.{first_earliest}
use Rattle.apply_events.proofs.Waits.ManyLanes.{ComesFirst, comes_first, lanes_emit, next_of_plan, no_more, one_fewer}

state_at : {a b : _} {g : _} (items : List (Lane a b g)) (k : ℕ) (lane : Lane a b g) → k < length items → get_or (map state_of items) k unused ≡ state_of (get_or items k lane)
state_at [] k lane lt = absurd (omega arith)
state_at (x ∷ items) zero lane lt = refl
state_at (x ∷ items) (suc k) lane lt = state_at items k lane (omega arith)

lane_time_at : (states : List LaneState) (k : ℕ) → k < length states → get_or (map next_lane_time states) k first_lane_time ≡ next_lane_time (get_or states k unused)
lane_time_at [] k lt = absurd (omega arith)
lane_time_at (s ∷ states) zero lt = refl
lane_time_at (s ∷ states) (suc k) lt = lane_time_at states k (omega arith)

state_read : {a b : _} {g : _} (items : List (Lane a b g)) (k : ℕ) (lane : Lane a b g) → k < length items → lane ≡ get_or items k lane → state_of lane ≡ get_or (map state_of items) k unused
state_read items k lane lt is = ap state_of is ∙ sym (state_at items k lane lt)

pub lane_time_read : {a b : _} {g : _} (items : List (Lane a b g)) (k : ℕ) (lane : Lane a b g) (m : LaneTime) → k < length items → lane ≡ get_or items k lane → m ≡ next_lane_time (state_of lane)
    → m ≡ get_or (map next_lane_time (map state_of items)) k first_lane_time
lane_time_read items k lane m lt is reads =
    let count = length-map items state_of in
    reads ∙ ap next_lane_time (state_read items k lane lt is) ∙ sym (lane_time_at (map state_of items) k (omega arith))

pub length_moments : {a b : _} {g : _} (items : List (Lane a b g)) → length (map next_lane_time (map state_of items)) ≡ length items
length_moments items = length-map (map state_of items) next_lane_time ∙ length-map items state_of

pub first_of : {a b : _} {g : _} (items : List (Lane a b g)) (k : ℕ) → 0 < length items → k ≡ first_earliest (map next_lane_time (map state_of items)) → ComesFirst (map state_of items) k
first_of items k some is = let count = length-map items state_of in comes_first (map state_of items) k (omega arith) is

pub inside : {a b : _} {g : _} (items : List (Lane a b g)) (k : ℕ) → 0 < length items → k ≡ first_earliest (map next_lane_time (map state_of items)) → k < length items
inside items k some is = let first = (first_of items k some is).inside in let count = length-map items state_of in omega arith

pub emits_read : {a b : _} {g : _} (w : Work) (started : List StartedTurn) (items : List (Lane a b g)) (k : ℕ) (lane new : Lane a b g) (result : Option Event) → k < length items → lane ≡ get_or items k lane
    → EmitsNext w started (state_of lane) result (state_of new) → EmitsNext w started (get_or (map state_of items) k unused) result (state_of new)
emits_read w started items k lane new result lt is emits = subst (λ s. EmitsNext w started s result (state_of new)) (state_read items k lane lt is) emits

-- so many events were emitted before this one
abbrev pub Counts : Work → List StartedTurn → Option Event → (emitted : ℕ) → List LaneState → Type 0
Counts w started None emitted states = emitted + sum_by (count_left w started) states ≤ 189180000
Counts w started (Some e) emitted states = emitted + 1 + sum_by (count_left w started) states ≤ 189180000

-- what the lane that comes first does, of all
pub record AllEmit {a b : _} {g : _} (w : Work) (started : List StartedTurn) (items : List (Lane a b g)) (emitted : ℕ) (result : Option Event) (after : List (Lane a b g)) : Type 0 where
  pub next : GivesNext (merged (when started) (length (map state_of items)) (left w started (map state_of items))) result
      (merged (when started) (length (map state_of after)) (left w started (map state_of after)))
  pub steady : AreSteady w started (map state_of after)
  pub all : length after ≡ length items
  pub counted : Counts w started result emitted (map state_of after)
  pub of_plan : IfSome result (IsOfPlan w.plan)

counts : (w : Work) (started : List StartedTurn) (states : List LaneState) (k : ℕ) (s : LaneState) (emitted : ℕ) (result : Option Event) → k < length states → EmitsNext w started (get_or states k unused) result s
    → emitted + sum_by (count_left w started) states ≤ 189180000 → Counts w started result emitted (set states k s)
counts w started states k s emitted None lt emits few = no_more w started states k s emitted emits few
counts w started states k s emitted (Some e) lt emits few = one_fewer w started states k s e emitted lt emits few

of_plan : (w : Work) (started : List StartedTurn) (states : List LaneState) (k : ℕ) (s : LaneState) (result : Option Event) → k < length states → AreSteady w started states → EmitsNext w started (get_or states k unused) result s → IfSome result (IsOfPlan w.plan)
of_plan w started states k s None lt steady emits = tt
of_plan w started states k s (Some e) lt steady emits = next_of_plan w started states k s e lt steady emits

pub all_emit : {a b : _} {g : _} (w : Work) (started : List StartedTurn) (items : List (Lane a b g)) (k : ℕ) (lane new : Lane a b g) (result : Option Event) (emitted : ℕ) → 0 < length items
    → k ≡ first_earliest (map next_lane_time (map state_of items)) → lane ≡ get_or items k lane → AreSteady w started (map state_of items) → All (IsTimedTurn w (when started)) started
    → emitted + sum_by (count_left w started) (map state_of items) ≤ 189180000 → EmitsNext w started (state_of lane) result (state_of new) → AllEmit w started items emitted result (set items k new)
all_emit w started items k lane new result emitted some is at steady timed few emits =
    let states = map state_of items in
    let first = first_of items k some is in
    let lt = inside items k some is in
    let here = emits_read w started items k lane new result lt at emits in
    let same : map state_of (set items k new) ≡ set states k (state_of new) = map-set state_of items k new in
    let emitted_so = lanes_emit w started states k (state_of new) result emitted steady timed first here in
    record {
      next = subst (λ l. GivesNext (merged (when started) (length states) (left w started states)) result (merged (when started) (length l) (left w started l))) (sym same) emitted_so.next;
      steady = subst (AreSteady w started) (sym same) emitted_so.steady;
      all = length-set items k new;
      counted = subst (Counts w started result emitted) (sym same) (counts w started states k (state_of new) emitted result first.inside here few);
      of_plan = of_plan w started states k (state_of new) result first.inside steady here;
    }

-- ---- lanes that are started, one after another

pub none_started : {a b : _} {g : _} (w : Work) (started : List StartedTurn) (items : List (Lane a b g)) → items ≡ [] → HaveGoneOn w started 0 (map state_of items)
none_started w started items is = record { all = ap (λ l. length (map state_of l)) is; each = λ lane lt. absurd (omega arith) }

pub one_started : {a b : _} {g : _} (w : Work) (started : List StartedTurn) (items after : List (Lane a b g)) (n : ℕ) (new : Lane a b g) → after ≡ items ++ new ∷ [] → HasGoneOn w started n 0 (state_of new)
    → HaveGoneOn w started n (map state_of items) → HaveGoneOn w started (n + 1) (map state_of after)
one_started w started items after n new is gone so_far =
    let states = map state_of items in
    let all : map state_of after ≡ states ++ state_of new ∷ [] = ap (λ l. map state_of l) is ∙ map-append state_of items (new ∷ []) in
    let size = so_far.all in
    let longer = length-append states (state_of new ∷ []) in
    record {
      all = ap length all ∙ (let more : length (states ++ state_of new ∷ []) ≡ n + 1 = omega arith in more);
      each = λ lane lt. subst (λ l. HasGoneOn w started lane 0 (get_or l lane unused)) (sym all) (⊎_elim
          (λ (less : lane < n). subst (HasGoneOn w started lane 0) (sym (get_or_append_left states (state_of new ∷ []) unused lane (omega arith))) (so_far.each lane less))
          (λ (ge : n ≤ lane).
          let same : n ≡ lane = omega arith in
          subst (λ k. HasGoneOn w started k 0 (get_or (states ++ state_of new ∷ []) k unused)) same
          (subst (HasGoneOn w started n 0) (sym (get_or_at states (state_of new) [] unused n size)) gone))
          (cases_lt lane n));
    }

pub all_started : (w : Work) (started : List StartedTurn) (n m : ℕ) (states : List LaneState) → n ≡ m → HaveGoneOn w started n states → HaveGoneOn w started m states
all_started w started n m states same h = subst (λ k. HaveGoneOn w started k states) same h
