-- The nodes that a graph has for the steps of a plan.
use Rattle.std.specs.Prelude.{List, [], ◌∷◌, Bool, true, false}
use Rattle.std.specs.List.{flat_map}
use Rattle.apply_model.specs.Plan.ResourceChange.{ResourceChange}
use Rattle.apply_model.specs.Plan.StepKind.{is_kind}
use Rattle.apply_model.specs.declared.plan.step_kind.StepKind.{StepKind}
use Rattle.apply_model.specs.declared.plan.step_kind.StepKind.TheVariants.{Delete}
use Rattle.input_graph.specs.StepNodes.{step_name}
use Rattle.input_graph.specs.declared.step_node.StepNode.{StepNode}

-- The nodes of steps of these kinds. `follows` is whether a step of the change stands before them.
abbrev pub nodes_from : ResourceChange → (follows : Bool) → List StepKind → List StepNode
nodes_from change follows [] = []
nodes_from change follows (kind ∷ kinds) =
    record { name = step_name change.address change.deposed (is_kind Delete kind); follows = follows } ∷ nodes_from change true kinds

abbrev pub nodes_of_change : ResourceChange → List StepNode
nodes_of_change change = nodes_from change false change.steps

-- The nodes of all steps, in the plan's order.
abbrev pub step_nodes : List ResourceChange → List StepNode
step_nodes changes = flat_map nodes_of_change changes
