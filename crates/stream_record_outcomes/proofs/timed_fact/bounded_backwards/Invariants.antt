use Rattle.std.proofs.Common.{◌≡◌, ◌≤◌, drop, length, reverse}
use Rattle.stream_record_outcomes.specs.Times.{bounded, latest_before}
use Rattle.stream_record_outcomes.proofs.timed_fact.bounded_backwards.Given as goal

abbrev pub invariant-loop-place : goal.invariant-loop-place
invariant-loop-place l = record {
  within : l.place ≤ length l.facts;
  so_far : l.backwards.items ≡ reverse (bounded l.begun.second l.whole (drop l.place l.facts));
  latest : l.latest ≡ latest_before l.whole (drop l.place l.facts);
}

abbrev pub decreases-loop-place : goal.decreases-loop-place
decreases-loop-place l = l.place
