use Rattle.std.proofs.Common.{◌≡◌, ◌+◌, ◌-◌, ◌++◌, ◌≤◌, length, map}
use Rattle.stream_lines.specs.Cut.{cut_lines}
use Rattle.stream_timeline.specs.Details.{lines_of_detail}
use Rattle.stream_timeline.proofs.DetailLines.{stored_lines}
use Rattle.stream_timeline.proofs.reading.diagnostic.Detail.of.Given as goal

-- with those to come: the lines that are stored, and how many are not
abbrev pub invariant-lines : goal.invariant-lines
invariant-lines l = record {
  few : length l.lines.items ≤ 10;
  bound : l.more + length l.rest ≤ length l.fn.detail;
  lines : map (λ line. line.items) l.lines.items ++ stored_lines (10 - length l.lines.items) (cut_lines l.rest) ≡ stored_lines 10 (lines_of_detail l.fn.detail);
  more : l.more + (length (cut_lines l.rest) - (10 - length l.lines.items)) ≡ length (lines_of_detail l.fn.detail) - 10;
}

abbrev pub decreases-lines : goal.decreases-lines
decreases-lines l = length l.rest
