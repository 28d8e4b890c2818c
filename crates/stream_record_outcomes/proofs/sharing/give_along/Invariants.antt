use Rattle.std.proofs.Common.{◌≡◌, drop, map}
use Rattle.stream_record_outcomes.specs.Assignment.{along}
use Rattle.stream_record_outcomes.proofs.sharing.give_along.Given as goal

abbrev pub invariant-loop-number : goal.invariant-loop-number
invariant-loop-number l =
    along (map (λ note. note.now) (drop l.number l.notes)) l.number l.left l.started l.assignment
    ≡ along (map (λ note. note.now) l.notes) 0 l.ended l.started l.initial.assignment
