use Rattle.std.proofs.Common.{◌≡◌, drop}
use Rattle.stream_timeline.specs.Building.{marked_at}
use Rattle.stream_timeline.proofs.reading.timeline.Timeline.mark_all.Given as goal

-- with those to come, all are marked
abbrev pub invariant-loop-place : goal.invariant-loop-place
invariant-loop-place l =
    record l.self { steps = marked_at (drop l.place-index l.places) l.self.steps } ≡ record l.initial.self { steps = marked_at l.places l.initial.self.steps }
