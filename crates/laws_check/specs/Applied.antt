-- Streams of plans that were read and applied, as bytes.
use Rattle.std.specs.Prelude.{ℕ, ◌+◌, ◌≤◌, List, false, length, nat_lt, None}
use Rattle.std.specs.List.{AllByRecursion}
use Rattle.stream_check.specs.declared.verdict.whole.Whole.{Whole}
use Rattle.stream_lines.specs.Cut.{cut_lines}
use Rattle.stream_lines.specs.Limits.{max_bytes}
use Rattle.apply_writer.specs.declared.report.Report.{Report}
use Rattle.laws_check.specs.Accepted.{totals_of_counts}

-- no line of the stream is longer than a line may be
abbrev pub HasShortLines : (stream : List ℕ) → Type 0
HasShortLines stream = AllByRecursion (λ (line : List ℕ). length line ≤ max_bytes) (cut_lines stream)

-- The verdict on the stream of a run with this report: the same totals, and errors if a step failed
-- or was halted. There is a line for each event, one for the version and one for the summary.
abbrev pub whole_reported : Report → Whole
whole_reported report = record {
  totals = totals_of_counts report.counts;
  has_errors = nat_lt 0 (report.counts.failed + report.counts.halted);
  lines = report.taken + 2;
  is_plan = false;
  passed = None;
}
