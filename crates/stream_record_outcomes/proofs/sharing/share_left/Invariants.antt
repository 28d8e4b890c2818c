use Rattle.std.proofs.Common.{◌≡◌, drop, map}
use Rattle.std.specs.Prelude.{filter}
use Rattle.stream_record_outcomes.specs.Assignment.{is_in_turn, share_left}
use Rattle.stream_record_outcomes.proofs.sharing.share_left.Given as goal

abbrev pub invariant-loop-taker : goal.invariant-loop-taker
invariant-loop-taker l =
    share_left (map (λ note. note.now) l.notes) (filter (is_in_turn l.turn) (drop l.taker-index l.takers)) l.assignment
    ≡ share_left (map (λ note. note.now) l.notes) (filter (is_in_turn l.turn) l.takers) l.initial.assignment
