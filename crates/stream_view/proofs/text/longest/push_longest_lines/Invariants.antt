use Rattle.std.proofs.Common.{◌≡◌}
use Rattle.stream_view.proofs.text.longest.push_longest_lines.Given as goal

abbrev pub invariant-loop-place : goal.invariant-loop-place
invariant-loop-place l = l.line_buffer.style ≡ l.initial.line_buffer.style
