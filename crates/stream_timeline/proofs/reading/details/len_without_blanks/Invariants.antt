use Rattle.std.proofs.Common.{◌≡◌, ◌+◌, ◌≤◌, length, take}
use Rattle.std.specs.List.{suffix_len}
use Rattle.stream_timeline.specs.Details.{is_blank}
use Rattle.stream_timeline.proofs.reading.details.len_without_blanks.Given as goal

-- what is left, and what it still has at its end
abbrev pub invariant-back : goal.invariant-back
invariant-back l = record {
  bound : l.len ≤ length l.line;
  value : l.len + suffix_len is_blank l.line ≡ length l.line + suffix_len is_blank (take l.len l.line);
}

abbrev pub decreases-back : goal.decreases-back
decreases-back l = l.len
