use Rattle.std.proofs.Common.{◌≡◌, ◌+◌, ◌≤◌, length}
use Rattle.stream_lines.specs.Cut.{cut_lines}
use Rattle.input_graph.specs.Reading.{first_fault, graph_of, joined}
use Rattle.input_graph.proofs.reading.read_lines.Given as goal

abbrev pub invariant-lines : goal.invariant-lines
invariant-lines l = record {
  counted : l.number + length l.rest ≤ length l.bytes;
  faults : first_fault 1 (cut_lines l.bytes) ≡ first_fault (l.number + 1) (cut_lines l.rest);
  grown : graph_of (cut_lines l.bytes) ≡ joined l.graph (graph_of (cut_lines l.rest));
}

abbrev pub decreases-lines : goal.decreases-lines
decreases-lines l = length l.rest
