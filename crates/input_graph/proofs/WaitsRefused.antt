-- Why a graph gives no waits, once each step has a node and no edges go in a circle.
use Rattle.std.proofs.Common.{◌≡◌, List, Result, Ok, Err, None}
use Rattle.std.specs.Prelude.{IfErr, OnOk}
use Rattle.input_graph.specs.declared.step_node.StepNode.{StepNode}
use Rattle.input_graph.specs.declared.waits_fault.WaitsFault.{WaitsFault}
use Rattle.input_graph.specs.declared.waits_fault.WaitsFault.TheVariants.{NoNode, Circle, TooMany, Memory}
use Rattle.input_graph.specs.NamedGraph.{NamedGraph}
use Rattle.input_graph.specs.Circles.{AreRanked}
use Rattle.input_graph.specs.GraphNodes.{first_without_node}
use Rattle.input_graph.specs.PlanEdges.{plan_edges}
use Rattle.input_graph.specs.StepNodes.{names_of}
use Rattle.input_graph.specs.Waits.{known_edges}
use Rattle.input_graph.specs.WaitsRefusal.{IsOrderly, IsRefusedAlong, IsRefusedFor}
use Rattle.input_graph.proofs.Ranks.{no_circle}

pub orderly : (steps : List StepNode) (graph : NamedGraph) → first_without_node (names_of steps) graph ≡ None → AreRanked (plan_edges steps graph) → IsOrderly steps graph
orderly steps graph none ranks = record { nodes = none; no_circle = no_circle (plan_edges steps graph) ranks }

pub on_ok : {A E P : Type 0} (result : Result A E) → P → OnOk result P
on_ok (Ok value) p = p
on_ok (Err error) p = tt

refused : (steps : List StepNode) (graph : NamedGraph) (fault : WaitsFault) → IsOrderly steps graph → IsRefusedAlong (names_of steps) (known_edges (names_of steps) graph) fault → IsRefusedFor steps graph fault
refused steps graph (NoNode step) is along = absurd along
refused steps graph (Circle node) is along = absurd along
refused steps graph TooMany is along = (is, along)
refused steps graph Memory is along = tt

pub all_refused : {A : Type 0} (steps : List StepNode) (graph : NamedGraph) (result : Result A WaitsFault) → IsOrderly steps graph
    → IfErr result (IsRefusedAlong (names_of steps) (known_edges (names_of steps) graph)) → IfErr result (λ fault. IsRefusedFor steps graph fault)
all_refused steps graph (Ok value) is along = tt
all_refused steps graph (Err fault) is along = refused steps graph fault is along
