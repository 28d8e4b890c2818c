-- What a graph is read as.
use Rattle.std.specs.Prelude.{ℕ, ◌+◌, ◌==◌, ◌&&◌, List, [], ◌∷◌, ◌++◌, length, nat_lt, Bool, if◌then◌else◌, Option, Some, None, Result, Ok, Err, option_to_list}
use Rattle.std.specs.Char.{is_ascii_whitespace}
use Rattle.std.specs.List.{filter_map, list_all}
use Rattle.stream_lines.specs.Cut.{cut_lines}
use Rattle.input_graph.specs.declared.graph_fault.GraphFault.{GraphFault}
use Rattle.input_graph.specs.declared.graph_fault.GraphFault.TheVariants.{TooLarge, NeitherNodeNorEdge, NotOfPlan as FaultNotOfPlan, NoGraph, NoNode}
use Rattle.input_graph.specs.declared.graph_line.GraphLine.{GraphLine}
use Rattle.input_graph.specs.declared.graph_line.GraphLine.TheVariants.{Other, Node, Edge, Neither, NotOfPlan}
use Rattle.input_graph.specs.Lines.{graph_line}
use Rattle.input_graph.specs.NamedGraph.{NamedGraph}

-- The most bytes of a graph: 64 MiB.
abbrev pub max_bytes : ℕ
max_bytes = 67108864

-- The node that a line is, and the edge.
abbrev pub node_in : GraphLine → Option (List ℕ)
node_in Other = None
node_in (Node name) = Some name
node_in (Edge from to) = None
node_in Neither = None
node_in NotOfPlan = None

abbrev pub edge_in : GraphLine → Option (List ℕ × List ℕ)
edge_in Other = None
edge_in (Node name) = None
edge_in (Edge from to) = Some (from, to)
edge_in Neither = None
edge_in NotOfPlan = None

-- What is wrong with the line of that number.
abbrev pub fault_in : (number : ℕ) → GraphLine → Option GraphFault
fault_in number Other = None
fault_in number (Node name) = None
fault_in number (Edge from to) = None
fault_in number Neither = Some (NeitherNodeNorEdge number)
fault_in number NotOfPlan = Some (FaultNotOfPlan number)

-- The first fault of lines, where the first line has the number `first`.
abbrev pub first_fault : (first : ℕ) → List (List ℕ) → Option GraphFault
first_fault first [] = None
first_fault first (line ∷ lines) = elim (fault_in first (graph_line line)) as (λ _. Option GraphFault) [
  | None ↦ first_fault (first + 1) lines
  | Some fault ↦ Some fault
]

-- The graph of one line, and two graphs one after the other.
abbrev pub graph_of_line : GraphLine → NamedGraph
graph_of_line line = record {
  nodes = option_to_list (node_in line);
  edges = option_to_list (edge_in line);
}

abbrev pub joined : NamedGraph → NamedGraph → NamedGraph
joined first second = record {
  nodes = first.nodes ++ second.nodes;
  edges = first.edges ++ second.edges;
}

-- The nodes and the edges of lines.
abbrev pub graph_of : List (List ℕ) → NamedGraph
graph_of lines = record {
  nodes = filter_map (λ line. node_in (graph_line line)) lines;
  edges = filter_map (λ line. edge_in (graph_line line)) lines;
}

-- Lines are refused for the first line that has a fault.
abbrev pub unless_fault : Option GraphFault → NamedGraph → Result NamedGraph GraphFault
unless_fault None graph = Ok graph
unless_fault (Some fault) graph = Err fault

abbrev pub graph_in_lines : List (List ℕ) → Result NamedGraph GraphFault
graph_in_lines lines = unless_fault (first_fault 1 lines) (graph_of lines)

-- All lines are blank.
abbrev pub is_blank : List ℕ → Bool
is_blank bytes = list_all is_ascii_whitespace bytes

-- Bytes with no fault in a line are still no graph where no line is a node or an edge.
abbrev pub unless_empty : (bytes : List ℕ) → Result NamedGraph GraphFault → Result NamedGraph GraphFault
unless_empty bytes (Err fault) = Err fault
unless_empty bytes (Ok graph) =
    if length graph.nodes == 0 && length graph.edges == 0 then Err (if is_blank bytes then NoGraph else NoNode) else Ok graph

-- The graph that bytes are, or why they are none.
abbrev pub graph_in : List ℕ → Result NamedGraph GraphFault
graph_in bytes = if nat_lt max_bytes (length bytes) then Err TooLarge else unless_empty bytes (graph_in_lines (cut_lines bytes))
