-- Times along lists in order.
use Rattle.std.proofs.Common.{◌≡◌, ◌≤◌, zero, suc, List, [], ◌∷◌, true, false, cond, refl, arith}
use Rattle.std.specs.List.Sorted.{IsNonDecreasingBy}
use Rattle.apply_events.specs.declared.event.Event.{Event}
use Rattle.apply_events.specs.declared.lanes.turn.StartedTurn.{StartedTurn}
use Rattle.apply_events.specs.Waits.TimeLine.{InOrder, Precedes, is_of_turn, lane_time_from, lane_time_of}

-- the time of an event in seconds is its own second
pub second_is : (taken : List StartedTurn) (e : Event) → (lane_time_of taken e).second ≡ e.at
second_is [] e = refl
second_is (one ∷ others) e =
    elim (is_of_turn one.turn e) as (λ t. (cond t (lane_time_from one.begin e) (lane_time_of others e)).second ≡ e.at) [ true ↦ refl | false ↦ second_is others e ]

pub no_later : (taken : List StartedTurn) (e f : Event) → Precedes (lane_time_of taken) e f → e.at ≤ f.at
no_later taken e f p =
    let first = second_is taken e in let second = second_is taken f in let low = p.0.0 in omega arith

pub never_fall : (taken : List StartedTurn) (es : List Event) → InOrder (lane_time_of taken) es → IsNonDecreasingBy (λ (e : Event). e.at) es
never_fall taken [] h i j d le below = absurd (omega arith)
never_fall taken (e ∷ es) h zero zero d le below = omega arith
never_fall taken (e ∷ es) h zero (suc j) d le below = no_later taken e _ (h.0 j d (omega arith))
never_fall taken (e ∷ es) h (suc i) zero d le below = absurd (omega arith)
never_fall taken (e ∷ es) h (suc i) (suc j) d le below = never_fall taken es h.1 i j d (omega arith) (omega arith)
