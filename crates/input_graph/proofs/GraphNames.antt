-- The names of the nodes of a graph, and steps that have none of them.
use Rattle.std.proofs.Common.{◌≡◌, ◌<◌, ◌+◌, ℕ, suc, List, [], ◌∷◌, ◌++◌, Bor, length, take, drop, get_or, map, cond, not, true, false, Bool, Some, sym, ap, ◌∙◌, add-one, drop-cons}
use Rattle.std.specs.Prelude.{◌||◌, slice_get}
use Rattle.std.specs.List.{list_any, position_from}
use Rattle.std.specs.Str.{bytes_eq}
use Rattle.std.proofs.lemmas.List.{map_more}
use Rattle.std.proofs.lemmas.List.Concat.{flat_map-append}
use Rattle.std.proofs.lemmas.List.Sums.{fold-append, fold_push}
use Rattle.std.proofs.lemmas.Option.{get_or_from_slice_get, slice_get_within}
use Rattle.input_graph.specs.GraphNodes.{ends, has_node, known_nodes}
use Rattle.input_graph.specs.NamedGraph.{NamedGraph}
use Rattle.input_graph.specs.Nodes.{with_all, with_node}
use Rattle.input_graph.specs.StepNodes.{known_name}
use Rattle.input_graph.specs.Targets.{edge_texts, texts}
use Rattle.input_graph.proofs.Members.{any_with, or_assoc, or_false}
use Rattle.input_graph.proofs.Texts.{joined_text}

-- the ends of one edge more
ends_more : (edges : List (Bor (List ℕ) × Bor (List ℕ))) (i : ℕ) (d : Bor (List ℕ) × Bor (List ℕ)) → i < length edges
    → ends (edge_texts (take (i + 1) edges)) ≡ ends (edge_texts (take i edges)) ++ (get_or edges i d).0.now ∷ (get_or edges i d).1.now ∷ []
ends_more edges i d within =
    let edge = get_or edges i d in
    ap ends (map_more (λ (e : Bor (List ℕ) × Bor (List ℕ)). (e.0.now, e.1.now)) edges i d within)
    ∙ flat_map-append (λ (e : List ℕ × List ℕ). e.0 ∷ e.1 ∷ []) (edge_texts (take i edges)) ((edge.0.now, edge.1.now) ∷ [])

pub ends_join : (edges : List (Bor (List ℕ) × Bor (List ℕ))) (i : ℕ) (d : Bor (List ℕ) × Bor (List ℕ)) (first : List (List ℕ)) (nodes one two : List (Bor (List ℕ))) → i < length edges
    → texts nodes ≡ with_all first (ends (edge_texts (take i edges)))
    → one ≡ cond (list_any (λ other. bytes_eq (get_or edges i d).0.now other.now) nodes) nodes (nodes ++ (get_or edges i d).0 ∷ [])
    → two ≡ cond (list_any (λ other. bytes_eq (get_or edges i d).1.now other.now) one) one (one ++ (get_or edges i d).1 ∷ [])
    → texts two ≡ with_all first (ends (edge_texts (take (i + 1) edges)))
ends_join edges i d first nodes one two within so_far from to =
    let edge = get_or edges i d in
    joined_text edge.1 one two to
    ∙ ap (λ (list : List (List ℕ)). with_node list edge.1.now) (joined_text edge.0 nodes one from ∙ ap (λ (list : List (List ℕ)). with_node list edge.0.now) so_far)
    ∙ sym (fold-append with_node first (ends (edge_texts (take i edges))) (edge.0.now ∷ edge.1.now ∷ []))
    ∙ ap (with_all first) (sym (ends_more edges i d within))

-- one node more that has a line of its own
pub node_joins : (steps lines : List (List ℕ)) (i : ℕ) (line : List ℕ) (known : Bor (List ℕ)) (nodes new : List (Bor (List ℕ))) → i < length lines → line ≡ get_or lines i line
    → known.now ≡ known_name steps line → texts nodes ≡ with_all [] (map (λ node. known_name steps node) (take i lines))
    → new ≡ cond (list_any (λ other. bytes_eq known.now other.now) nodes) nodes (nodes ++ known ∷ [])
    → texts new ≡ with_all [] (map (λ node. known_name steps node) (take (i + 1) lines))
node_joins steps lines i line known nodes new within here is so_far joined =
    let name : List ℕ → List ℕ = λ node. known_name steps node in
    joined_text known nodes new joined
    ∙ ap (λ (list : List (List ℕ)). with_node list known.now) so_far
    ∙ ap (with_node (with_all [] (map name (take i lines)))) (is ∙ ap name here)
    ∙ sym (fold_push with_node [] (map name (take i lines)) (name (get_or lines i line)))
    ∙ ap (with_all []) (sym (map_more name lines i line within))

-- the nodes that joined are those of the graph
any_with_all : (other : List ℕ) (more nodes : List (List ℕ)) → list_any (bytes_eq other) (with_all nodes more) ≡ (list_any (bytes_eq other) nodes || list_any (bytes_eq other) more)
any_with_all other [] nodes = sym (or_false (list_any (bytes_eq other) nodes))
any_with_all other (x ∷ xs) nodes =
    any_with_all other xs (with_node nodes x)
    ∙ ap (λ (b : Bool). b || list_any (bytes_eq other) xs) (any_with other nodes x)
    ∙ sym (or_assoc (list_any (bytes_eq other) nodes) (bytes_eq other x) (list_any (bytes_eq other) xs))

pub has_joined : (steps : List (List ℕ)) (graph : NamedGraph) (nodes : List (Bor (List ℕ))) (name : List ℕ) (has : Bool) → texts nodes ≡ with_all [] (known_nodes steps graph)
    → list_any (bytes_eq name) (texts nodes) ≡ has → has_node steps graph name ≡ has
has_joined steps graph nodes name has are is = sym (ap (list_any (bytes_eq name)) are ∙ any_with_all name (known_nodes steps graph) []) ∙ is

-- the first place from a place on
from_place : (test : List ℕ → Bool) (names : List (List ℕ)) (k : ℕ) (name : List ℕ) (b : Bool) → slice_get names k ≡ Some name → test name ≡ b
    → position_from test k (drop k names) ≡ cond b (Some k) (position_from test (k + 1) (drop (k + 1) names))
from_place test names k name b at is =
    let next : drop (k + 1) names ≡ drop (suc k) names = ap (λ (n : ℕ). drop n names) (add-one k) in
    ap (position_from test k) (drop-cons names k name (slice_get_within names k name at))
    ∙ ap (λ (x : List ℕ). cond (test x) (Some k) (position_from test (k + 1) (drop (suc k) names))) (get_or_from_slice_get names k name name at)
    ∙ ap (λ (t : Bool). cond t (Some k) (position_from test (k + 1) (drop (suc k) names))) is
    ∙ ap (λ (rest : List (List ℕ)). cond b (Some k) (position_from test (k + 1) rest)) (sym next)

module _ (steps : List (List ℕ)) (graph : NamedGraph) (k : ℕ) (name : List ℕ) (at : slice_get steps k ≡ Some name) where
  -- a step has no node
  pub without : has_node steps graph name ≡ false → Some k ≡ position_from (λ name. not (has_node steps graph name)) k (drop k steps)
  without none = sym (from_place (λ name. not (has_node steps graph name)) steps k name true at (ap not none))

  -- it has one
  pub with_one : has_node steps graph name ≡ true
      → position_from (λ name. not (has_node steps graph name)) k (drop k steps) ≡ position_from (λ name. not (has_node steps graph name)) (k + 1) (drop (k + 1) steps)
  with_one some = from_place (λ name. not (has_node steps graph name)) steps k name false at (ap not some)
