-- Lanes in the code, by the events that they still have to emit.
use Rattle.std.proofs.Common.{◌≡◌, ℕ, zero, suc, ◌+◌, ◌<◌, ◌≤◌, All, List, [], ◌∷◌, ◌++◌, Option, Some, None, get_or, length, length-append, map, set, refl, sym, ap, ◌∙◌, subst, ⊎_elim, arith}
use Rattle.std.proofs.lemmas.Bool.{cases_lt}
use Rattle.std.proofs.lemmas.List.Elements.{All-head, All-nil, All-tail}
use Rattle.std.proofs.lemmas.List.{get_or_append_left, get_or_at, length-map, length-set, map-append, map-set}
use Rattle.apply_events.specs.declared.event.Event.{Event}
use Rattle.apply_events.specs.declared.lanes.lane_time.LaneTime.{LaneTime}
use Rattle.apply_events.specs.declared.lanes.turn.StartedTurn.{StartedTurn}
use Rattle.std.specs.Prelude.{IfSome, option_map, slice_get}
use Rattle.std.specs.Option.{option_map_or}
use Rattle.std.proofs.lemmas.Option.{slice_get-map}
use Rattle.apply_model.specs.Plan.ResourceChange.{ResourceChange}
use Rattle.apply_events.specs.Course.{GivesNext}
use Rattle.apply_events.specs.Fits.{IsOfPlan}
use Rattle.apply_events.specs.Lanes.LaneState.{HasGoneOn, HaveGoneOn, LaneState, EmitsNext, left, next_lane_time, unused}
use Rattle.apply_events.specs.Lanes.Steady.{AreSteady, IsTimedTurn, when}
use Rattle.apply_events.specs.Step.{Work, kinds_of}
use Rattle.apply_events.specs.Waits.Merging.{merged}
use Rattle.apply_events.specs.Waits.LaneTime.{first_lane_time}
use Rattle.apply_events.specs.Waits.Schedule.{first_earliest}
use Rattle.apply_events.proofs.Waits.ManyLanes.{ComesFirst, comes_first, lanes_emit, next_of_plan}
use Rattle.apply_planning.specs.declared.lane.Lane.{Lane}
use Rattle.apply_planning.specs.declared.told.Told.{Told}
use Rattle.apply_planning.specs.Begun.{IsInTime}
use Rattle.apply_planning.specs.Lane.{state_of}
use Rattle.apply_planning.specs.PlanningWork.{change_of, planning_work}

state_at : (items : List Lane) (k : ℕ) (lane : Lane) → k < length items → get_or (map state_of items) k unused ≡ state_of (get_or items k lane)
state_at [] k lane lt = absurd (omega arith)
state_at (x ∷ items) zero lane lt = refl
state_at (x ∷ items) (suc k) lane lt = state_at items k lane (omega arith)

time_at : (states : List LaneState) (k : ℕ) → k < length states → get_or (map next_lane_time states) k first_lane_time ≡ next_lane_time (get_or states k unused)
time_at [] k lt = absurd (omega arith)
time_at (s ∷ states) zero lt = refl
time_at (s ∷ states) (suc k) lt = time_at states k (omega arith)

state_read : (items : List Lane) (k : ℕ) (lane : Lane) → k < length items → lane ≡ get_or items k lane → state_of lane ≡ get_or (map state_of items) k unused
state_read items k lane lt is = ap state_of is ∙ sym (state_at items k lane lt)

pub time_read : (items : List Lane) (k : ℕ) (lane : Lane) (m : LaneTime) → k < length items → lane ≡ get_or items k lane → m ≡ next_lane_time (state_of lane)
    → m ≡ get_or (map next_lane_time (map state_of items)) k first_lane_time
time_read items k lane m lt is reads =
    let count = length-map items state_of in
    reads ∙ ap next_lane_time (state_read items k lane lt is) ∙ sym (time_at (map state_of items) k (omega arith))

pub length_times : (items : List Lane) → length (map next_lane_time (map state_of items)) ≡ length items
length_times items = length-map (map state_of items) next_lane_time ∙ length-map items state_of

first_of : (items : List Lane) (k : ℕ) → 0 < length items → k ≡ first_earliest (map next_lane_time (map state_of items)) → ComesFirst (map state_of items) k
first_of items k some is = let count = length-map items state_of in comes_first (map state_of items) k (omega arith) is

pub inside : (items : List Lane) (k : ℕ) → 0 < length items → k ≡ first_earliest (map next_lane_time (map state_of items)) → k < length items
inside items k some is = let first = (first_of items k some is).inside in let count = length-map items state_of in omega arith

-- what the lane that comes first does, of all
pub record AllEmit (w : Work) (started : List StartedTurn) (items : List Lane) (result : Option Event) (after : List Lane) : Type 0 where
  pub next : GivesNext (merged (when started) (length (map state_of items)) (left w started (map state_of items))) result
      (merged (when started) (length (map state_of after)) (left w started (map state_of after)))
  pub steady : AreSteady w started (map state_of after)
  pub all : length after ≡ length items
  pub of_plan : IfSome result (IsOfPlan w.plan)

of_plan : (w : Work) (started : List StartedTurn) (states : List LaneState) (k : ℕ) (s : LaneState) (result : Option Event) → k < length states → AreSteady w started states → EmitsNext w started (get_or states k unused) result s → IfSome result (IsOfPlan w.plan)
of_plan w started states k s None lt steady emits = tt
of_plan w started states k s (Some e) lt steady emits = next_of_plan w started states k s e lt steady emits

pub all_emit : (w : Work) (started : List StartedTurn) (items : List Lane) (k : ℕ) (lane new : Lane) (result : Option Event) → 0 < length items
    → k ≡ first_earliest (map next_lane_time (map state_of items)) → lane ≡ get_or items k lane → AreSteady w started (map state_of items) → All (IsTimedTurn w (when started)) started
    → EmitsNext w started (state_of lane) result (state_of new) → AllEmit w started items result (set items k new)
all_emit w started items k lane new result some is at steady timed emits =
    let states = map state_of items in
    let first = first_of items k some is in
    let lt = inside items k some is in
    let here = subst (λ s. EmitsNext w started s result (state_of new)) (state_read items k lane lt at) emits in
    let same : map state_of (set items k new) ≡ set states k (state_of new) = map-set state_of items k new in
    let emitted = lanes_emit w started states k (state_of new) result 0 steady timed first here in
    record {
      next = subst (λ l. GivesNext (merged (when started) (length states) (left w started states)) result (merged (when started) (length l) (left w started l))) (sym same) emitted.next;
      steady = subst (AreSteady w started) (sym same) emitted.steady;
      all = length-set items k new;
      of_plan = of_plan w started states k (state_of new) result first.inside steady here;
    }

-- an event of the plan is of a told object
known_change : (told : List Told) (e : Event) → IsOfPlan (planning_work told).plan e → e.change < length told
known_change told e of = ⊎_elim
    (λ (lt : e.change < length told). lt)
    (λ (ge : length told ≤ e.change).
    let none : kinds_of (planning_work told).plan e.change ≡ [] =
    ap (λ (o : Option ResourceChange). option_map_or (λ change. change.steps) o []) (slice_get-map change_of told e.change ∙ ap (option_map change_of) (past told e.change ge)) in
    let size = ap length none in
    let has = of.has_step in absurd (omega arith))
    (cases_lt e.change (length told))
  where
    past : (all : List Told) (k : ℕ) → length all ≤ k → slice_get all k ≡ None
    past [] k ge = refl
    past (x ∷ all) zero ge = absurd (omega arith)
    past (x ∷ all) (suc k) ge = past all k (omega arith)

pub known : (told : List Told) (result : Option Event) → IfSome result (IsOfPlan (planning_work told).plan) → IfSome result (λ e. e.change < length told)
known told None of = tt
known told (Some e) of = known_change told e of

-- ---- lanes that are started, one after another

pub none_started : (w : Work) (started : List StartedTurn) (items : List Lane) → items ≡ [] → HaveGoneOn w started 0 (map state_of items)
none_started w started items is = record { all = ap (λ l. length (map state_of l)) is; each = λ lane lt. absurd (omega arith) }

pub one_started : (w : Work) (started : List StartedTurn) (items after : List Lane) (n : ℕ) (new : Lane) → after ≡ items ++ new ∷ [] → HasGoneOn w started n 0 (state_of new)
    → HaveGoneOn w started n (map state_of items) → HaveGoneOn w started (n + 1) (map state_of after)
one_started w started items after n new is gone so_far =
    let states = map state_of items in
    let all : map state_of after ≡ states ++ state_of new ∷ [] = ap (λ l. map state_of l) is ∙ map-append state_of items (new ∷ []) in
    let size = so_far.all in
    let longer = length-append states (state_of new ∷ []) in
    record {
      all = ap length all ∙ (let more : length (states ++ state_of new ∷ []) ≡ n + 1 = omega arith in more);
      each = λ lane lt. subst (λ l. HasGoneOn w started lane 0 (get_or l lane unused)) (sym all) (⊎_elim
          (λ (less : lane < n). subst (HasGoneOn w started lane 0) (sym (get_or_append_left states (state_of new ∷ []) unused lane (omega arith))) (so_far.each lane less))
          (λ (ge : n ≤ lane).
          let same : n ≡ lane = omega arith in
          subst (λ k. HasGoneOn w started k 0 (get_or (states ++ state_of new ∷ []) k unused)) same
          (subst (HasGoneOn w started n 0) (sym (get_or_at states (state_of new) [] unused n size)) gone))
          (cases_lt lane n));
    }

-- ---- an event in time, and the events after it

pub in_time_next : (result : Option Event) (before after : List Event) → GivesNext before result after → All IsInTime before → IfSome result IsInTime × All IsInTime after
in_time_next None before after gives all = (tt, subst (All IsInTime) (sym gives.1) (All-nil IsInTime))
in_time_next (Some e) before after gives all =
    let here = subst (All IsInTime) gives all in (All-head IsInTime e after here, All-tail IsInTime e after here)
