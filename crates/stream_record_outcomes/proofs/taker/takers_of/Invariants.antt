use Rattle.std.proofs.Common.{◌≡◌, ◌++◌, drop}
use Rattle.std.specs.List.{filter_map}
use Rattle.stream_record_outcomes.specs.Assignment.{taker_at, takers_of}
use Rattle.stream_record_outcomes.proofs.taker.takers_of.Given as goal

abbrev pub invariant-loop-place : goal.invariant-loop-place
invariant-loop-place l =
    l.takers.items ++ filter_map (taker_at l.is_default_form l.begun) (drop l.place-index l.places)
    ≡ takers_of l.is_default_form l.begun l.places
