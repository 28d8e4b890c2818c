-- Times along lists in order.
use Rattle.std.proofs.Common.{zero, suc, List, [], ◌∷◌, arith}
use Rattle.std.specs.List.Sorted.{IsNonDecreasingBy}
use Rattle.apply_events.specs.declared.event.Event.{Event}
use Rattle.apply_events.specs.Lanes.TimeLine.{InOrder}

pub never_fall : (es : List Event) → InOrder es → IsNonDecreasingBy (λ (e : Event). e.at) es
never_fall [] h i j d le below = absurd (omega arith)
never_fall (e ∷ es) h zero zero d le below = omega arith
never_fall (e ∷ es) h zero (suc j) d le below = (h.0 j d (omega arith)).0
never_fall (e ∷ es) h (suc i) zero d le below = absurd (omega arith)
never_fall (e ∷ es) h (suc i) (suc j) d le below = never_fall es h.1 i j d (omega arith) (omega arith)
