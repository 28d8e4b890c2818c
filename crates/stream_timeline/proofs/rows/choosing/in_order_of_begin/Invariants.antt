use Rattle.std.proofs.Common.{◌≡◌, ℕ, ℤ, map, take}
use Rattle.stream_timeline.specs.declared.rows.choosing.Candidate.{Candidate}
use Rattle.stream_timeline.specs.Steps.{StepRead}
use Rattle.stream_timeline.proofs.Printed.{begin_at}
use Rattle.stream_timeline.proofs.rows.choosing.in_order_of_begin.Given as goal

-- the begin and place of each so far
abbrev pub invariant-loop-candidate : goal.invariant-loop-candidate
invariant-loop-candidate l = (d : StepRead) → l.begins.items ≡ map (λ (c : Candidate). begin_at l.steps d c.place) (take l.candidate-index l.chosen)

-- the place of each so far
abbrev pub invariant-loop-place : goal.invariant-loop-place
invariant-loop-place l = l.places.items ≡ map (λ (b : ℤ × ℕ). b.1) (take l.place-index l.place-items)
