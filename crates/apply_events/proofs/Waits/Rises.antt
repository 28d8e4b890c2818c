-- The events of a lane, whose times never fall, in the words of contracts and of lemmas.
use Rattle.std.proofs.Common.{◌≡◌, ℕ, true, false, List, [], ◌∷◌, cond, refl}
use Rattle.apply_events.specs.declared.event.Event.{Event}
use Rattle.apply_events.specs.declared.lanes.lane_time.LaneTime.{LaneTime}
use Rattle.apply_events.specs.declared.lanes.turn.StartedTurn.{StartedTurn}
use Rattle.apply_events.specs.Lanes.Steady.{IsTimed, Rises}
use Rattle.apply_events.specs.Waits.TimeLine.{is_of_turn, lane_time_from, lane_time_of}
use Rattle.apply_events.proofs.Waits.Merge as merge
use Rattle.apply_events.proofs.Waits.Moments.{same_lane_time}

pub rises_merge : (at : Event → LaneTime) (lane : ℕ) (es : List Event) → Rises at lane es → merge.Rises at lane es
rises_merge at lane [] h = tt
rises_merge at lane (e ∷ es) h = (h.0, h.1, rises_merge at lane es h.2)

pub merge_rises : (at : Event → LaneTime) (lane : ℕ) (es : List Event) → merge.Rises at lane es → Rises at lane es
merge_rises at lane [] h = tt
merge_rises at lane (e ∷ es) h = (h.0, h.1, merge_rises at lane es h.2)

-- ---- the time of an event

second_is : (started : List StartedTurn) (e : Event) → (lane_time_of started e).second ≡ e.at
second_is [] e = refl
second_is (one ∷ started) e =
    let rest = second_is started e in
    elim (is_of_turn one.turn e) as (λ t. (cond t (lane_time_from one.begin e) (lane_time_of started e)).second ≡ e.at) [ true ↦ refl | false ↦ rest ]

pub second_of : (started : List StartedTurn) (e : Event) → (lane_time_of started e).second ≡ e.at
second_of started e = second_is started e

-- an event with the round of its turn has the time of its turn
pub timed_is : (started : List StartedTurn) (begin : LaneTime) (e : Event) → IsTimed (lane_time_of started) begin e → lane_time_of started e ≡ lane_time_from begin e
timed_is started begin e round = same_lane_time (lane_time_of started e) (lane_time_from begin e) (second_is started e) round
