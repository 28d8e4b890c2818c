use Rattle.std.proofs.Common.{◌≡◌, ◌<◌, ◌∙◌, List, ℕ, Bor, Option, Some, length, get_or, sym, ap, subst}
use Rattle.std.specs.Prelude.{IfSome, slice_get}
use Rattle.input_graph.specs.declared.step_node.StepNode.{StepNode}
use Rattle.input_graph.proofs.Numbered.{name_read}
use Rattle.input_graph.proofs.step_nodes.StepNodes.name.Goals as goal

pub returns : goal.returns
returns c =
    let steps : List StepNode = c.self.inside.steps.now in
    let at = subst (λ (r : Option (Bor StepNode)). IfSome r (λ x. x.now ≡ get_or steps c.args.step x.now)) c.unwrap.ensures c.get.ensures.lookup.1 in
    let within = subst (λ (all : List (List ℕ)). c.args.step < length all) (sym c.self.view_is) c.requires in
    subst (λ (all : List (List ℕ)). slice_get all c.args.step ≡ Some c.as_str.result.now) c.self.view_is
    (name_read steps c.args.step c.unwrap.result.now within at ∙ ap Some (sym c.as_str.ensures))
