use Rattle.std.proofs.Common.{◌≡◌, ◌+◌, ◌-◌, ◌≤◌, drop, length}
use Rattle.std.specs.List.{prefix_len}
use Rattle.stream_timeline.specs.Details.{is_blank}
use Rattle.stream_timeline.proofs.reading.details.blanks_in_front.Given as goal

-- so many, and those to come
abbrev pub invariant-front : goal.invariant-front
invariant-front l = record {
  bound : l.count ≤ length l.line;
  value : l.count + prefix_len is_blank (drop l.count l.line) ≡ prefix_len is_blank l.line;
}

abbrev pub decreases-front : goal.decreases-front
decreases-front l = length l.line - l.count
