use Rattle.std.proofs.Common.{◌≡◌, ◌++◌, drop, map}
use Rattle.stream_record_outcomes.specs.Assignment.{left_from}
use Rattle.stream_record_outcomes.proofs.notes.loose_notes.Given as goal

abbrev pub invariant-loop-number : goal.invariant-loop-number
invariant-loop-number l =
    l.loose.items ++ left_from l.number (map (λ note. note.now) (drop l.number l.notes)) l.assignment
    ≡ left_from 0 (map (λ note. note.now) l.notes) l.assignment
