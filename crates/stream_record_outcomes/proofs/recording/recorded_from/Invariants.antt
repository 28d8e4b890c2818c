use Rattle.std.proofs.Common.{◌≡◌, ◌++◌, drop, map}
use Rattle.stream_record_outcomes.specs.Recording.{recorded_from}
use Rattle.stream_record_outcomes.proofs.recording.recorded_from.Given as goal

abbrev pub invariant-loop-place : goal.invariant-loop-place
invariant-loop-place l =
    l.recorded.items
    ++ recorded_from l.cut_off_at l.begun (map (λ note. note.now) l.notes) l.assignment l.place (drop l.place l.steps)
    ≡ recorded_from l.cut_off_at l.begun (map (λ note. note.now) l.notes) l.assignment 0 l.steps
