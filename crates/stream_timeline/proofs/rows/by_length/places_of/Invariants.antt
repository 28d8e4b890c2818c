use Rattle.std.proofs.Common.{◌≡◌, map, take}
use Rattle.stream_timeline.specs.declared.rows.choosing.Candidate.{Candidate}
use Rattle.stream_timeline.proofs.rows.by_length.places_of.Given as goal

-- the place of each so far
abbrev pub invariant-loop-candidate : goal.invariant-loop-candidate
invariant-loop-candidate l = l.places.items ≡ map (λ (c : Candidate). c.place) (take l.candidate-index l.chosen)
