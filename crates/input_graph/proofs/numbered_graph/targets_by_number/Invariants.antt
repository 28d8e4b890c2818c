use Rattle.std.proofs.Common.{◌≡◌, ◌≤◌, length}
use Rattle.input_graph.specs.AllWaits.{lists_in}
use Rattle.input_graph.specs.Numbering.{Extends, HaveTargets}
use Rattle.input_graph.specs.Targets.{texts}
use Rattle.input_graph.proofs.numbered_graph.targets_by_number.Given as goal

abbrev pub invariant-loop-number : goal.invariant-loop-number
invariant-loop-number l = HaveTargets l.edges (texts l.names.keys) (lists_in l.targets.items) l.number × (length (lists_in l.targets.items) ≡ l.number)
    × (l.number ≤ length l.names.keys) × Extends (texts l.initial.names.keys) (texts l.names.keys)
