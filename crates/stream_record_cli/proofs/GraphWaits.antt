-- The waits of a graph are waits of the steps of the plan.
use Rattle.std.proofs.Common.{◌≡◌, ◌<◌, ◌+◌, ◌∙◌, ℕ, Bool, true, List, [], ◌∷◌, All, Some, ap, arith, length, length-append, refl, subst, sym}
use Rattle.std.specs.List.{Contains}
use Rattle.std.proofs.lemmas.List.{length-map}
use Rattle.std.proofs.lemmas.List.Elements.{All-contains_itself, All-weaker}
use Rattle.std.proofs.lemmas.Option.{slice_get-get_or}
use Rattle.apply_model.specs.declared.plan.step_kind.StepKind.{StepKind}
use Rattle.apply_model.specs.Plan.ResourceChange.{ResourceChange}
use Rattle.input_graph.specs.AllWaits.{AreWaitsAlong}
use Rattle.input_graph.specs.StepNodes.{names_of}
use Rattle.input_graph.specs.Waits.{AreWaits, WaitsFor}
use Rattle.input_graph.proofs.Numbered.{named_within}
use Rattle.input_graph.specs.declared.step_node.StepNode.{StepNode}
use Rattle.stream_record_steps.specs.Steps.{planned_from, planned_steps, steps_from}
use Rattle.stream_record_waits.specs.Graph.{AreWaitsOf, waits_at}
use Rattle.stream_record_cli.specs.Graphs.{AreGraphWaits}
use Rattle.stream_record_cli.specs.StepNames.{nodes_from, nodes_of_change, step_nodes}

nodes_many : (change : ResourceChange) (follows : Bool) (kinds : List StepKind) → length (nodes_from change follows kinds) ≡ length kinds
nodes_many change follows [] = refl
nodes_many change follows (kind ∷ kinds) = omega (arith, nodes_many change true kinds)

steps_many : (change : ResourceChange) (change_number number place : ℕ) (kinds : List StepKind)
    → length (steps_from change change_number number place kinds) ≡ length kinds
steps_many change change_number number place [] = refl
steps_many change change_number number place (kind ∷ kinds) = omega (arith, steps_many change change_number (number + 1) (place + 1) kinds)

-- a node for each step
as_many : (change_number place : ℕ) (changes : List ResourceChange) → length (step_nodes changes) ≡ length (planned_from change_number place changes)
as_many change_number place [] = refl
as_many change_number place (change ∷ changes) =
    length-append (nodes_of_change change) (step_nodes changes)
    ∙ ap (λ (n : ℕ). n + length (step_nodes changes))
    (nodes_many change _ change.steps ∙ sym (steps_many change change_number 0 place change.steps))
    ∙ ap (λ (n : ℕ). length (steps_from change change_number 0 place change.steps) + n) (as_many (change_number + 1) (place + length change.steps) changes)
    ∙ sym (length-append (steps_from change change_number 0 place change.steps) (planned_from (change_number + 1) (place + length change.steps) changes))

names_many : (nodes : List StepNode) → length (names_of nodes) ≡ length nodes
names_many nodes = rw length-map refl

module _ (names : List (List ℕ)) (edges : List (List ℕ × List ℕ)) where
  -- a wait is for a step that there is
  below : (step other : ℕ) → WaitsFor names edges step other → other < length names
  below step other waits = named_within names waits.node (Some other) (sym waits.names)

  known : (step : ℕ) (waits : List ℕ) → AreWaits names edges step waits → All (λ other. other < length names) waits
  known step waits are =
      All-weaker (Contains waits) (λ other. other < length names) (λ other has. below step other (are.sound other has)) waits (All-contains_itself waits)

  module _ (lists : List (List ℕ)) (along : AreWaitsAlong names edges lists) where
    at_step : (step : ℕ) → step < length names → AreWaits names edges step (waits_at lists step)
    at_step step within =
        along.waits step (waits_at lists step) (slice_get-get_or lists step [] (subst (λ (n : ℕ). step < n) (sym along.each) within))

    pub of_steps : (count : ℕ) → length names ≡ count → AreWaitsOf count lists
    of_steps count many = record {
      each = along.each ∙ many;
      in_order = λ step within. (at_step step (subst (λ (n : ℕ). step < n) (sym many) within)).in_order;
      known = λ step within. subst (λ (n : ℕ). All (λ other. other < n) (waits_at lists step)) many
          (known step (waits_at lists step) (at_step step (subst (λ (n : ℕ). step < n) (sym many) within)));
    }

pub waits_are_of : (changes : List ResourceChange) (bytes : List ℕ) (lists : List (List ℕ)) → AreGraphWaits changes bytes lists
    → AreWaitsOf (length (planned_steps changes)) lists
waits_are_of changes bytes lists are =
    of_steps (names_of (step_nodes changes)) _ lists are.are (length (planned_steps changes)) (names_many (step_nodes changes) ∙ as_many 0 0 changes)
