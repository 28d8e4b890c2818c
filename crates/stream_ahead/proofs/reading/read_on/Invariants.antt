use Rattle.std.proofs.Common.{◌≡◌, vec_len}
use Rattle.stream_ahead.specs.declared.handover.TheConstants.{CHUNK_LEN}
use Rattle.stream_ahead.proofs.reading.read_on.Given as goal

abbrev pub invariant-loop : goal.invariant-loop
invariant-loop g l =
    (vec_len l.bytes ≡ CHUNK_LEN)
    × (goal.iterator-loop g).can_next l.iterator'
    × (goal.iterator-loop g).is_finite l.iterator'
