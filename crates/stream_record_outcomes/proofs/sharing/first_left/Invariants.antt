use Rattle.std.proofs.Common.{◌≡◌, drop, map}
use Rattle.stream_record_outcomes.specs.Assignment.{first_left, first_left_from}
use Rattle.stream_record_outcomes.proofs.sharing.first_left.Given as goal

abbrev pub invariant-loop-number : goal.invariant-loop-number
invariant-loop-number l =
    first_left_from l.number (map (λ note. note.now) (drop l.number l.notes)) l.assignment l.fit
    ≡ first_left (map (λ note. note.now) l.notes) l.assignment l.fit
