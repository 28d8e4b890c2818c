use Rattle.std.proofs.Common.{◌≡◌, ℕ, List, drop}
use Rattle.std.specs.HashMap.{get_by}
use Rattle.std.specs.List.{position_from}
use Rattle.std.specs.Str.{bytes_eq}
use Rattle.input_graph.specs.StepNodes.{names_of}
use Rattle.input_graph.proofs.step_nodes.StepNodes.new.Given as goal

-- the steps from the current one on have their numbers
abbrev pub invariant-loop-number : goal.invariant-loop-number
invariant-loop-number l = (name : List ℕ) → get_by (λ key. bytes_eq name key.now) l.numbers ≡ position_from (bytes_eq name) l.number (drop l.number (names_of l.steps))
