use Rattle.std.proofs.Common.{◌≡◌}
use Rattle.stream_view.proofs.text.drawing.push_diagnostics.Given as goal

abbrev pub invariant-loop-diagnostic_line : goal.invariant-loop-diagnostic_line
invariant-loop-diagnostic_line l = l.line_buffer.style ≡ l.initial.line_buffer.style
