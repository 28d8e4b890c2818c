use Rattle.std.proofs.Common.{◌≡◌, filter, map, take}
use Rattle.stream_record_steps.specs.UnderWay.{earliest, is_sought}
use Rattle.stream_record_steps.proofs.under_way.sought_place.Given as goal

abbrev pub invariant-loop-step : goal.invariant-loop-step
invariant-loop-step l = l.first ≡ earliest l.slots (map (λ step. step.place) (filter (is_sought l.slots l.sought) (take l.step-index l.steps)))
