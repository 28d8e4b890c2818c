-- What a line of a graph is.
use Rattle.std.specs.Prelude.{ℕ, ◌-◌, ◌==◌, ◌&&◌, ◌||◌, List, length, take, drop, slice_index, codes, Bool, if◌then◌else◌, Option, Some, None}
use Rattle.std.specs.Char.{is_ascii_whitespace}
use Rattle.std.specs.List.{prefix_len, suffix_len}
use Rattle.apply_model.specs.Plan.Address.{after_prefix, is_empty}
use Rattle.input_graph.specs.declared.graph_line.GraphLine.{GraphLine}
use Rattle.input_graph.specs.declared.graph_line.GraphLine.TheVariants.{Other, Node, Edge, Neither, NotOfPlan}
use Rattle.input_graph.specs.Quoted.{quoted}

-- The bytes without the blanks at their front, and without those at both ends.
abbrev pub skip_blanks : List ℕ → List ℕ
skip_blanks bytes = drop (prefix_len is_ascii_whitespace bytes) bytes

abbrev pub trim_blanks_end : List ℕ → List ℕ
trim_blanks_end bytes = take (length bytes - suffix_len is_ascii_whitespace bytes) bytes

abbrev pub trim_blanks : List ℕ → List ℕ
trim_blanks bytes = trim_blanks_end (skip_blanks bytes)

-- The bytes without a semicolon at their end.
abbrev pub without_semicolon : List ℕ → List ℕ
without_semicolon bytes = if slice_index bytes (length bytes - 1) == 59 then take (length bytes - 1) bytes else bytes

-- The bytes begin with `[` and end with `]`.
abbrev pub is_bracketed : List ℕ → Bool
is_bracketed bytes = slice_index bytes 0 == 91 && slice_index bytes (length bytes - 1) == 93

-- What may follow the last name of a line: attributes in brackets or none, and a semicolon or none.
abbrev pub ends_line : List ℕ → Bool
ends_line rest = let attributes = trim_blanks (without_semicolon (trim_blanks rest)) in is_empty attributes || is_bracketed attributes

-- The name of a node of a plan's graph without the `[root] ` at its front.
abbrev pub name_in_plan : List ℕ → Option (List ℕ)
name_in_plan name = after_prefix (codes "[root] ") name

abbrev pub node_of : Option (List ℕ) → GraphLine
node_of None = NotOfPlan
node_of (Some name) = Node name

abbrev pub edge_of : (from to : Option (List ℕ)) → GraphLine
edge_of None to = NotOfPlan
edge_of (Some from) None = NotOfPlan
edge_of (Some from) (Some to) = Edge from to

-- The line of an edge, after the quoted name that follows the arrow was read.
abbrev pub edge_line : (from : List ℕ) → Option (List ℕ × List ℕ) → GraphLine
edge_line from None = Neither
edge_line from (Some to) = if ends_line to.1 then edge_of (name_in_plan from) (name_in_plan to.0) else Neither

-- The line after its first name: an arrow and another name make it an edge.
abbrev pub line_after_name : (name rest : List ℕ) → (after_arrow : Option (List ℕ)) → GraphLine
line_after_name name rest None = if ends_line rest then node_of (name_in_plan name) else Neither
line_after_name name rest (Some target) = edge_line name (quoted (skip_blanks target))

abbrev pub named_line : Option (List ℕ × List ℕ) → GraphLine
named_line None = Neither
named_line (Some first) = line_after_name first.0 first.1 (after_prefix (codes "->") (skip_blanks first.1))

-- What a line is. A line whose first byte after the blanks is a quote is a node, `"NAME"`, or an
-- edge, `"NAME" -> "NAME"`. All other lines are ignored.
abbrev pub graph_line : List ℕ → GraphLine
graph_line line = if slice_index (skip_blanks line) 0 == 34 then named_line (quoted (skip_blanks line)) else Other
