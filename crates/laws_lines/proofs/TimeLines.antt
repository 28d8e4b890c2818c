-- Events of time lines never fall back, and are told in time.
use Rattle.std.proofs.Common.{◌≡◌, ℕ, ◌<◌, ◌≤◌, All, List, [], ◌∷◌, cond, filter, Bool, true, false, refl, arith}
use Rattle.std.specs.List.{AllByRecursion}
use Rattle.apply_model.specs.Plan.SavedPlan.{SavedPlan}
use Rattle.apply_model.specs.Script.OutcomeMap.{OutcomeMap}
use Rattle.apply_events.specs.declared.event.Event.{Event}
use Rattle.apply_events.specs.Fits.{Fits}
use Rattle.apply_events.specs.Lanes.TimeLine as lanes
use Rattle.apply_events.specs.Step.{Work}
use Rattle.apply_events.specs.declared.lanes.turn.StartedTurn.{StartedTurn}
use Rattle.apply_events.specs.declared.lanes.lane_time.LaneTime.{LaneTime}
use Rattle.apply_events.specs.Waits.Schedule.{schedule}
use Rattle.apply_events.specs.Waits.TimeLine as waiting
use Rattle.apply_events.specs.Waits.TimeLine.{is_of_turn, lane_time_from, lane_time_of}
use Rattle.apply_text.specs.Order.{hook_messages_of}
use Rattle.apply_text.specs.Start.{end_of_starts}
use Rattle.laws_check.proofs.Given.{each_held}
use Rattle.laws_check.proofs.SoundObjects.{all_filtered}
use Rattle.laws_lines.specs.Reading.{NeverFalls}
use Rattle.laws_lines.specs.Streams.{AreTold}
use Rattle.laws_lines.proofs.Names.{IsNamedScript, event_named}
use Rattle.laws_lines.proofs.ReadEvents.{all_weaker}

-- ---- the order of time

never_falls_kept : (t : Event → Bool) (es : List Event) → NeverFalls es → NeverFalls (filter t es)
never_falls_kept t [] falls = tt
never_falls_kept t (e ∷ es) falls = of_test (t e) (all_filtered (λ (other : Event). e.at ≤ other.at) t es falls.0) (never_falls_kept t es falls.1)
  where
    of_test : (b : Bool) → AllByRecursion (λ (other : Event). e.at ≤ other.at) (filter t es) → NeverFalls (filter t es) → NeverFalls (cond b (e ∷ filter t es) (filter t es))
    of_test true later rest = (later, rest)
    of_test false later rest = rest

in_lanes : (es : List Event) → lanes.InOrder es → NeverFalls es
in_lanes [] ordered = tt
in_lanes (e ∷ es) ordered = (all_weaker (lanes.Precedes e) (λ (other : Event). e.at ≤ other.at) (λ other before. before.0) es (each_held (lanes.Precedes e) es ordered.0), in_lanes es ordered.1)

pub lanes_never_fall : (work : Work) (n : ℕ) (es : List Event) → lanes.IsTimeLine work n es → NeverFalls (hook_messages_of es)
lanes_never_fall work n es line = never_falls_kept _ es (in_lanes es line.in_order)

-- the time of an event in a lane is in the second of the event
second_is : (turns : List StartedTurn) (e : Event) → (lane_time_of turns e).second ≡ e.at
second_is [] e = refl
second_is (started ∷ others) e = of_test (is_of_turn started.turn e) (second_is others e)
  where
    of_test : (b : Bool) → (lane_time_of others e).second ≡ e.at → (cond {A = LaneTime} b (lane_time_from started.begin e) (lane_time_of others e)).second ≡ e.at
    of_test true rest = refl
    of_test false rest = rest

with_waits : (turns : List StartedTurn) (es : List Event) → waiting.InOrder (lane_time_of turns) es → NeverFalls es
with_waits turns [] ordered = tt
with_waits turns (e ∷ es) ordered = (
  all_weaker (waiting.Precedes (lane_time_of turns) e) (λ (other : Event). e.at ≤ other.at) (λ other before. omega (arith, before.0.0, second_is turns e, second_is turns other)) es (each_held (waiting.Precedes (lane_time_of turns) e) es ordered.0),
  with_waits turns es ordered.1,
)

pub waits_never_fall : (work : Work) (n : ℕ) (es : List Event) → waiting.IsTimeLine work n es → NeverFalls (hook_messages_of es)
waits_never_fall work n es line = never_falls_kept _ es (with_waits (schedule work n) es line.in_order)

-- ---- events that can happen

pub are_told : (plan : SavedPlan) (script : OutcomeMap) (start : ℕ) (es : List Event) → IsNamedScript script → start < end_of_starts → All (Fits plan script) es → AreTold script start es
are_told plan script start es named few fit =
    let each = each_held (Fits plan script) es fit in
    record {
      named = all_weaker (Fits plan script) _ (λ e fits. event_named plan script e named fits) es each;
      in_time = all_weaker (Fits plan script) _ (λ e fits. omega (arith, few, fits.of_plan.in_time)) es each;
      starts = omega (arith, few);
    }
