use Rattle.std.proofs.Common.{◌≡◌, length}
use Rattle.input_graph.specs.Numbering.{AreStarts}
use Rattle.input_graph.specs.Targets.{texts}
use Rattle.input_graph.proofs.numbered_graph.starts_of.Given as goal

abbrev pub invariant-loop-step : goal.invariant-loop-step
invariant-loop-step l = AreStarts l.nodes (texts l.names.keys) l.starts.items l.step × (length l.starts.items ≡ l.step)
