use Rattle.std.proofs.Common.{◌≡◌, ◌++◌, drop, map, take}
use Rattle.stream_timeline.specs.Steps.{ended_with_step}
use Rattle.stream_timeline.proofs.reading.step.end_all.Given as goal

-- those so far are ended
abbrev pub invariant-loop-place : goal.invariant-loop-place
invariant-loop-place l =
    l.provisioners ≡ map (ended_with_step l.end) (take l.place l.initial.provisioners) ++ drop l.place l.initial.provisioners
