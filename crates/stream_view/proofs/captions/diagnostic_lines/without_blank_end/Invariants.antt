use Rattle.std.proofs.Common.{◌≤◌, length}
use Rattle.stream_view.proofs.captions.diagnostic_lines.without_blank_end.Given as goal

abbrev pub invariant-back : goal.invariant-back
invariant-back l = l.len ≤ length l.line

abbrev pub decreases-back : goal.decreases-back
decreases-back l = l.len
