-- The nodes of the steps of a plan, one change after another.
use Rattle.std.proofs.Common.{◌≡◌, ◌∙◌, ◌+◌, ℕ, ◌∷◌, ◌++◌, List, Some, ap, append_assoc, drop, sym}
use Rattle.std.specs.Prelude.{slice_get}
use Rattle.std.proofs.lemmas.List.{drop_more}
use Rattle.std.proofs.lemmas.Option.{get_or_from_slice_get, slice_get_within}
use Rattle.apply_model.specs.Plan.ResourceChange.{ResourceChange}
use Rattle.input_graph.specs.declared.step_node.StepNode.{StepNode}
use Rattle.stream_record_cli.specs.StepNames.{nodes_of_change, step_nodes}

drop_change : (changes : List ResourceChange) (i : ℕ) (change : ResourceChange) → Some change ≡ slice_get changes i
    → drop i changes ≡ change ∷ drop (i + 1) changes
drop_change changes i change is =
    drop_more changes i change (slice_get_within changes i change (sym is))
    ∙ ap (λ (c : ResourceChange). c ∷ drop (i + 1) changes) (get_or_from_slice_get changes i change change (sym is))

-- the nodes of one change more
pub nodes_pushed : (changes : List ResourceChange) (i : ℕ) (before after whole : List StepNode) (change : ResourceChange)
    → Some change ≡ slice_get changes i → after ≡ before ++ nodes_of_change change
    → before ++ step_nodes (drop i changes) ≡ whole → after ++ step_nodes (drop (i + 1) changes) ≡ whole
nodes_pushed changes i before after whole change is pushed so_far =
    let later = step_nodes (drop (i + 1) changes) in
    ap (λ (nodes : List StepNode). nodes ++ later) pushed
    ∙ append_assoc before (nodes_of_change change) later
    ∙ ap (λ (cs : List ResourceChange). before ++ step_nodes cs) (sym (drop_change changes i change is))
    ∙ so_far
