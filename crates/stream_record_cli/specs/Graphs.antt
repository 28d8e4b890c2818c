-- The waits that a graph states for the steps of a plan.
use Rattle.std.specs.Prelude.{◌≡◌, ◌⊎◌, ⊤, ℕ, List, Option, None, Some, Ok, Err}
use Rattle.apply_model.specs.Plan.ResourceChange.{ResourceChange}
use Rattle.input_graph.specs.AllWaits.{AreAllWaits}
use Rattle.input_graph.specs.Circles.{AreRanked}
use Rattle.input_graph.specs.NamedGraph.{NamedGraph}
use Rattle.input_graph.specs.PlanEdges.{plan_edges}
use Rattle.input_graph.specs.Reading.{graph_in}
use Rattle.input_graph.specs.StepNodes.{names_of}
use Rattle.input_graph.specs.WaitsRefusal.{IsRefusedFor}
use Rattle.input_graph.specs.declared.graph_fault.GraphFault.{GraphFault}
use Rattle.input_graph.specs.declared.waits_fault.WaitsFault.{WaitsFault}
use Rattle.stream_record_cli.specs.Causes.{of_graph_fault, of_waits_fault}
use Rattle.stream_record_cli.specs.StepNames.{step_nodes}
use Rattle.stream_record_cli.specs.declared.graph_refusal.GraphRefusal.{GraphRefusal}
use Rattle.stream_record_cli.specs.declared.record_fault.RecordFault.{RecordFault}
use Rattle.stream_record_cli.specs.declared.record_fault.RecordFault.TheVariants as fault

-- The waits that the graph in these bytes states, for each step of the changes. Its edges go in no
-- circle.
pub record AreGraphWaits (changes : List ResourceChange) (bytes : List ℕ) (waits : List (List ℕ)) : Type 0 where
  pub graph : NamedGraph
  pub read : graph_in bytes ≡ Ok graph
  pub are : AreAllWaits (names_of (step_nodes changes)) graph waits
  pub ranked : AreRanked (plan_edges (step_nodes changes) graph)

-- The same, where there is a graph; without one there are no waits.
abbrev pub AreWaitsIn : List ResourceChange → (graph : Option (List ℕ)) → (waits : Option (List (List ℕ))) → Type 0
AreWaitsIn changes None None = ⊤
AreWaitsIn changes None (Some waits) = ⊥
AreWaitsIn changes (Some bytes) None = ⊥
AreWaitsIn changes (Some bytes) (Some waits) = AreGraphWaits changes bytes waits

-- The bytes are no graph of a plan.
abbrev pub IsNoGraph : (bytes : List ℕ) → GraphRefusal → Type 0
IsNoGraph bytes why = (given : GraphFault) × (graph_in bytes ≡ Err given) × (of_graph_fault given ≡ fault.Graph why)

-- The graph gives no waits for the steps: one has no node, edges go in a circle, or there are too
-- many waits.
abbrev pub IsWaitless : List ResourceChange → (bytes : List ℕ) → GraphRefusal → Type 0
IsWaitless changes bytes why =
    (graph : NamedGraph)
    × (given : WaitsFault)
    × (graph_in bytes ≡ Ok graph)
    × IsRefusedFor (step_nodes changes) graph given
    × (of_waits_fault given ≡ fault.Graph why)

-- The graph states no waits for this cause, or memory was refused.
abbrev pub IsWaitsFault : List ResourceChange → (bytes : List ℕ) → RecordFault → Type 0
IsWaitsFault changes bytes (fault.Input why) = ⊥
IsWaitsFault changes bytes (fault.Plan why) = ⊥
IsWaitsFault changes bytes (fault.Graph why) = IsNoGraph bytes why ⊎ IsWaitless changes bytes why
IsWaitsFault changes bytes (fault.Stream why) = ⊥
IsWaitsFault changes bytes (fault.NoRun missing) = ⊥
IsWaitsFault changes bytes fault.TooLarge = ⊥
IsWaitsFault changes bytes fault.Memory = ⊤
IsWaitsFault changes bytes fault.Gone = ⊥
IsWaitsFault changes bytes fault.Unwritten = ⊥

-- Why the graph states no waits, where there is a graph.
abbrev pub IsGraphRefused : List ResourceChange → (graph : Option (List ℕ)) → GraphRefusal → Type 0
IsGraphRefused changes None why = ⊥
IsGraphRefused changes (Some bytes) why = IsNoGraph bytes why ⊎ IsWaitless changes bytes why
