-- Graphs that are joined.
use Rattle.std.proofs.Common.{◌≡◌, ℕ, List, [], ◌++◌, Option, Some, None, refl, sym, append-nil, append_assoc}
use Rattle.std.specs.List.{cons_option}
use Rattle.std.specs.Option.{option_to_list}
use Rattle.input_graph.specs.NamedGraph.{NamedGraph}
use Rattle.input_graph.specs.Reading.{joined}

pub same_graph : (nodes others : List (List ℕ)) (edges more : List (List ℕ × List ℕ)) → nodes ≡ others → edges ≡ more
    → ◌≡◌ {A = NamedGraph} (record { nodes = nodes; edges = edges }) (record { nodes = others; edges = more })
same_graph nodes others edges more n e = cc

pub joined_none : (graph : NamedGraph) → graph ≡ joined graph (record { nodes = []; edges = [] })
joined_none graph = same_graph _ _ _ _ (sym (append-nil graph.nodes)) (sym (append-nil graph.edges))

pub joined_assoc : (a b c : NamedGraph) → joined (joined a b) c ≡ joined a (joined b c)
joined_assoc a b c = same_graph _ _ _ _ (append_assoc a.nodes b.nodes c.nodes) (append_assoc a.edges b.edges c.edges)

pub consed : {X : Type 0} → (item : Option X) (items : List X) → cons_option item items ≡ option_to_list item ++ items
consed None items = refl
consed (Some item) items = refl
