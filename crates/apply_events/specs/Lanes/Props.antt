-- Facts of lanes have at most one proof, so they may be ghost fields.
use Rattle.std.specs.Prelude.{ℕ, All, List, [], ◌∷◌, get_or}
use Rattle.std.specs.Coded.{Coded-set, coded_bool, le_prop, Π_prop}
use native.Mathlib.Nat.{ℕ_set}
use Rattle.apply_model.specs.Plan.SavedPlan.{SavedPlan}
use Rattle.apply_events.specs.declared.event.Event.{Event}
use Rattle.apply_events.specs.declared.lanes.lane_time.LaneTime.{LaneTime}
use Rattle.apply_events.specs.declared.lanes.turn.StartedTurn.{StartedTurn}
use Rattle.apply_events.specs.Fits.{IsOfPlan}
use Rattle.apply_events.specs.Lanes.LaneState.{LaneState, line, unused}
use Rattle.apply_events.specs.Lanes.Startable.{IsStartable}
use Rattle.apply_events.specs.Lanes.Steady.{AreSteady, IsSteadyLane, IsTimed, IsTimedTurn, Rises, when}
use Rattle.apply_events.specs.Step.{Work}
use Rattle.apply_events.specs.Waits.LaneTime.{IsNoLater}
use Rattle.apply_events.specs.Waits.TimeLine.{turn_events}

All-prop : {X : Type 0} (P : X → Type 0) → ((x : X) → IsProp (P x)) → (xs : List X) → IsProp (All P xs)
All-prop P one xs = Π_prop λ i. Π_prop λ d. Π_prop λ _. one (get_or xs i d)

-- ---- turns

IsStartable-prop : (work : Work) (one : StartedTurn) → IsProp (IsStartable work one)
IsStartable-prop work one = λ p q i. record {
  known = Coded-set coded_bool _ _ p.known q.known i;
  change = le_prop p.change q.change i;
  few = le_prop p.few q.few i;
  first = le_prop p.first q.first i;
  last = le_prop p.last q.last i;
  in_time = le_prop p.in_time q.in_time i;
  has_step = λ h. le_prop (p.has_step h) (q.has_step h) i;
  went_on = λ h. Coded-set coded_bool _ _ (p.went_on h) (q.went_on h) i;
  late = λ h. le_prop (p.late h) (q.late h) i;
}

pub AllStartable-prop : (work : Work) (started : List StartedTurn) → IsProp (All (IsStartable work) started)
AllStartable-prop work started = All-prop (IsStartable work) (IsStartable-prop work) started

IsTimed-prop : (at : Event → LaneTime) (begin : LaneTime) (e : Event) → IsProp (IsTimed at begin e)
IsTimed-prop at begin e = λ p q i. ℕ_set _ _ p q i

pub AllTimed-prop : (work : Work) (at : Event → LaneTime) (started : List StartedTurn) → IsProp (All (IsTimedTurn work at) started)
AllTimed-prop work at started = All-prop (IsTimedTurn work at) (λ one. All-prop (IsTimed at one.begin) (IsTimed-prop at one.begin) (turn_events work one)) started

-- ---- lanes

IsNoLater-prop : (a b : LaneTime) → IsProp (IsNoLater a b)
IsNoLater-prop a b = λ p q i. (le_prop p.0 q.0 i, λ h. le_prop (p.1 h) (q.1 h) i)

Rises-prop : (at : Event → LaneTime) (lane : ℕ) (es : List Event) → IsProp (Rises at lane es)
Rises-prop at lane [] = λ p q i. tt
Rises-prop at lane (e ∷ es) = λ p q i. (
  ℕ_set e.worker lane p.0 q.0 i,
  All-prop (λ (f : Event). IsNoLater (at e) (at f)) (λ f. IsNoLater-prop (at e) (at f)) es p.1 q.1 i,
  Rises-prop at lane es p.2 q.2 i,
)

IsOfPlan-prop : (plan : SavedPlan) (e : Event) → IsProp (IsOfPlan plan e)
IsOfPlan-prop plan e = λ p q i. record { has_step = le_prop p.has_step q.has_step i; in_time = le_prop p.in_time q.in_time i }

IsSteadyLane-prop : (work : Work) (started : List StartedTurn) (lane : ℕ) (s : LaneState) → IsProp (IsSteadyLane work started lane s)
IsSteadyLane-prop work started lane s = λ p q i. record {
  number = ℕ_set _ _ p.number q.number i;
  rises = Rises-prop (when started) lane (line work started s) p.rises q.rises i;
  timed = All-prop (IsTimed (when started) s.begin) (IsTimed-prop (when started) s.begin) s.events p.timed q.timed i;
  over = λ h. le_prop (p.over h) (q.over h) i;
  of_plan = All-prop (IsOfPlan work.plan) (IsOfPlan-prop work.plan) (line work started s) p.of_plan q.of_plan i;
}

pub AreSteady-prop : (work : Work) (started : List StartedTurn) (states : List LaneState) → IsProp (AreSteady work started states)
AreSteady-prop work started states = Π_prop λ lane. Π_prop λ _. IsSteadyLane-prop work started lane (get_or states lane unused)
