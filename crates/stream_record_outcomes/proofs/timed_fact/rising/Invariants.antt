use Rattle.std.proofs.Common.{◌≡◌, ◌++◌, length, reverse}
use Rattle.stream_record_outcomes.specs.Times.{rising}
use Rattle.stream_record_outcomes.proofs.timed_fact.rising.Given as goal

abbrev pub invariant-loop-fact : goal.invariant-loop-fact
invariant-loop-fact l = l.rising.items ++ rising l.low (reverse l.backwards.items) ≡ rising 0 (reverse l.initial.backwards.items)

abbrev pub decreases-loop-fact : goal.decreases-loop-fact
decreases-loop-fact l = length l.backwards.items
