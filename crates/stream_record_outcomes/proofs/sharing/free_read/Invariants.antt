use Rattle.std.proofs.Common.{◌≡◌, drop}
use Rattle.std.specs.List.{find}
use Rattle.stream_record_outcomes.specs.Assignment.{takes_read}
use Rattle.stream_record_outcomes.proofs.sharing.free_read.Given as goal

abbrev pub invariant-loop-taker : goal.invariant-loop-taker
invariant-loop-taker l =
    find (takes_read l.assignment l.note) (drop l.taker-index l.started) ≡ find (takes_read l.assignment l.note) l.started
