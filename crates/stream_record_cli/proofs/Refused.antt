-- Why a graph or a plan gives no waits and no script.
use Rattle.std.proofs.Common.{◌≡◌, ◌≢◌, ℕ, List, [], Option, Some, Ok, Err, inl, inr, refl, subst, sym}
use Rattle.std.specs.Prelude.{unwrap_or, ◌⊎◌}
use Rattle.apply_model.specs.Plan.ResourceChange.{ResourceChange}
use Rattle.apply_model.specs.Plan.SavedPlan.{SavedPlan}
use Rattle.apply_plan.specs.Plan.SavedPlan.{plan_of}
use Rattle.input_graph.specs.NamedGraph.{NamedGraph}
use Rattle.input_graph.specs.Reading.{graph_in}
use Rattle.input_graph.specs.WaitsRefusal.{IsRefusedFor}
use Rattle.input_graph.specs.declared.step_node.StepNode.{StepNode}
use Rattle.input_graph.specs.declared.graph_fault.GraphFault.{GraphFault}
use Rattle.input_graph.specs.declared.graph_fault.GraphFault.TheVariants as graph
use Rattle.input_graph.specs.declared.waits_fault.WaitsFault.{WaitsFault}
use Rattle.input_graph.specs.declared.waits_fault.WaitsFault.TheVariants as waits
use Rattle.stream_record.specs.declared.script_fault.ScriptFault.{ScriptFault}
use Rattle.stream_record.specs.declared.script_fault.ScriptFault.TheVariants as script
use Rattle.stream_record_cli.specs.Alone.{IsRefused, IsScriptOf, plan_script}
use Rattle.stream_record_cli.specs.Causes.{of_graph_fault, of_script_fault, of_waits_fault}
use Rattle.stream_record_cli.specs.Graphs.{AreWaitsIn, IsWaitsFault}
use Rattle.stream_record_cli.specs.Plans.{IsPlanFault}
use Rattle.stream_record_cli.specs.StepNames.{step_nodes}
use Rattle.stream_record_cli.specs.declared.record_fault.RecordFault.{RecordFault}
use Rattle.stream_record_cli.specs.declared.record_fault.RecordFault.TheVariants as fault

-- ---- the graph

-- it was not read
pub graphless : (changes : List ResourceChange) (bytes : List ℕ) (given : GraphFault) → (given ≢ graph.Memory → graph_in bytes ≡ Err given)
    → IsWaitsFault changes bytes (of_graph_fault given)
graphless changes bytes graph.TooLarge is = inl (graph.TooLarge, is (λ same. cc), refl)
graphless changes bytes (graph.NeitherNodeNorEdge line) is = inl (graph.NeitherNodeNorEdge line, is (λ same. cc), refl)
graphless changes bytes (graph.NotOfPlan line) is = inl (graph.NotOfPlan line, is (λ same. cc), refl)
graphless changes bytes graph.NoGraph is = inl (graph.NoGraph, is (λ same. cc), refl)
graphless changes bytes graph.NoNode is = inl (graph.NoNode, is (λ same. cc), refl)
graphless changes bytes graph.Memory is = tt

-- it gives no waits
no_waits : (changes : List ResourceChange) (bytes : List ℕ) (read : NamedGraph) (given : WaitsFault)
    → graph_in bytes ≡ Ok read → IsRefusedFor (step_nodes changes) read given
    → IsWaitsFault changes bytes (of_waits_fault given)
no_waits changes bytes read (waits.NoNode step) is why = inr (read, waits.NoNode step, is, why, refl)
no_waits changes bytes read (waits.Circle node) is why = inr (read, waits.Circle node, is, why, refl)
no_waits changes bytes read waits.TooMany is why = inr (read, waits.TooMany, is, why, refl)
no_waits changes bytes read waits.Memory is why = tt

pub waitless : (changes : List ResourceChange) (bytes : List ℕ) (read : NamedGraph) (nodes : List StepNode) (given : WaitsFault) (why : RecordFault)
    → graph_in bytes ≡ Ok read → nodes ≡ step_nodes changes → IsRefusedFor nodes read given → (why ≡ of_waits_fault given) ⊎ (why ≡ fault.Memory)
    → IsWaitsFault changes bytes why
waitless changes bytes read nodes given why is same refused (inl of) =
    subst (IsWaitsFault changes bytes) (sym of) (no_waits changes bytes read given is (subst (λ (ns : List StepNode). IsRefusedFor ns read given) same refused))
waitless changes bytes read nodes given why is same refused (inr memory) = subst (IsWaitsFault changes bytes) (sym memory) tt

-- ---- the script of a plan alone

-- the plan comes first
pub planless : (bytes : List ℕ) (given : Option (List ℕ)) (why : RecordFault) → IsPlanFault bytes why → IsRefused bytes given why
planless bytes given (fault.Input why) refused = absurd refused
planless bytes given (fault.Plan why) refused = refused
planless bytes given (fault.Graph why) refused = absurd refused
planless bytes given (fault.Stream why) refused = absurd refused
planless bytes given (fault.NoRun missing) refused = absurd refused
planless bytes given fault.TooLarge refused = absurd refused
planless bytes given fault.Memory refused = tt
planless bytes given fault.Gone refused = absurd refused
planless bytes given fault.Unwritten refused = absurd refused

module _ (bytes : List ℕ) (plan : SavedPlan) (read : plan_of bytes ≡ Ok plan) where
  -- the graph is refused
  pub unplanned : (graph : List ℕ) (why : RecordFault) → IsWaitsFault plan.changes graph why → IsRefused bytes (Some graph) why
  unplanned graph (fault.Input why) refused = absurd refused
  unplanned graph (fault.Plan why) refused = absurd refused
  unplanned graph (fault.Graph why) refused = (plan, read, refused)
  unplanned graph (fault.Stream why) refused = absurd refused
  unplanned graph (fault.NoRun missing) refused = absurd refused
  unplanned graph fault.TooLarge refused = absurd refused
  unplanned graph fault.Memory refused = tt
  unplanned graph fault.Gone refused = absurd refused
  unplanned graph fault.Unwritten refused = absurd refused

  pub made : (given : Option (List ℕ)) (waits : Option (List (List ℕ))) (text : List ℕ) → AreWaitsIn plan.changes given waits
      → plan_script plan.changes (unwrap_or waits []) ≡ Ok text → IsScriptOf bytes given text
  made given waits text stated is = record { saved = plan; read = read; waits = waits; stated = stated; is = is }

  pub unmade : (given : Option (List ℕ)) (waits : Option (List (List ℕ))) (why : ScriptFault) → AreWaitsIn plan.changes given waits
      → (why ≢ script.Memory → plan_script plan.changes (unwrap_or waits []) ≡ Err why) → IsRefused bytes given (of_script_fault why)
  unmade given waits script.TooLarge stated is = record { saved = plan; read = read; waits = waits; stated = stated; is = is (λ same. cc) }
  unmade given waits script.Memory stated is = tt
