use Rattle.std.proofs.Common.{◌≡◌, ◌+◌, ◌≤◌, length, take}
use Rattle.std.specs.List.{suffix_len}
use Rattle.stream_timeline.specs.Details.{is_blank_or_feed}
use Rattle.stream_timeline.proofs.reading.details.len_without_blank_lines.Given as goal

-- what is left, and what it still has at its end
abbrev pub invariant-back : goal.invariant-back
invariant-back l = record {
  bound : l.len ≤ length l.detail;
  value : l.len + suffix_len is_blank_or_feed l.detail ≡ length l.detail + suffix_len is_blank_or_feed (take l.len l.detail);
}

abbrev pub decreases-back : goal.decreases-back
decreases-back l = l.len
