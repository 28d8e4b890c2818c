-- Texts behind references.
use Rattle.std.proofs.Common.{◌≡◌, ℕ, List, [], ◌∷◌, ◌++◌, Option, Some, None, cond, true, false, Bool, Bor, refl, sym, ap, ◌∙◌, map}
use Rattle.std.specs.Prelude.{◌||◌, filter}
use Rattle.std.specs.List.{list_any}
use Rattle.std.specs.Option.{option_copied, option_map_or}
use Rattle.std.specs.Str.{bytes_eq}
use Rattle.std.specs.declared.alloc.Global.{Global}
use Rattle.std.specs.declared.vec.Vec.{Vec}
use Rattle.std.proofs.lemmas.List.{map-append}
use Rattle.input_graph.specs.Nodes.{with_node}
use Rattle.input_graph.specs.Targets.{edge_texts, targets_of, texts}

any_text : (node : List ℕ) (nodes : List (Bor (List ℕ))) → list_any (λ other. bytes_eq node other.now) nodes ≡ list_any (bytes_eq node) (texts nodes)
any_text node [] = refl
any_text node (x ∷ xs) = ap (λ b. bytes_eq node x.now || b) (any_text node xs)

chosen : (b : Bool) (node : Bor (List ℕ)) (nodes : List (Bor (List ℕ))) → texts (cond b nodes (nodes ++ node ∷ [])) ≡ cond b (texts nodes) (texts nodes ++ node.now ∷ [])
chosen true node nodes = refl
chosen false node nodes = map-append (λ (reference : Bor (List ℕ)). reference.now) nodes (node ∷ [])

inserted : (node : Bor (List ℕ)) (nodes : List (Bor (List ℕ)))
    → texts (cond (list_any (λ other. bytes_eq node.now other.now) nodes) nodes (nodes ++ node ∷ [])) ≡ with_node (texts nodes) node.now
inserted node nodes =
    chosen (list_any (λ other. bytes_eq node.now other.now) nodes) node nodes
    ∙ ap (λ (b : Bool). cond b (texts nodes) (texts nodes ++ node.now ∷ [])) (any_text node.now nodes)

pub joined_text : (node : Bor (List ℕ)) (nodes new : List (Bor (List ℕ))) → new ≡ cond (list_any (λ other. bytes_eq node.now other.now) nodes) nodes (nodes ++ node ∷ [])
    → texts new ≡ with_node (texts nodes) node.now
joined_text node nodes new is = ap texts is ∙ inserted node nodes

-- what a test by bytes says of the texts
pub tested : (node : List ℕ) (nodes : List (Bor (List ℕ))) (test result : Bool) → test ≡ list_any (λ other. bytes_eq node other.now) nodes → test ≡ result
    → list_any (bytes_eq node) (texts nodes) ≡ result
tested node nodes test result is gives = sym (any_text node nodes) ∙ sym is ∙ gives

-- what a map has at a node
found_texts : (found : Option (Bor (Vec (Bor (List ℕ)) Global)))
    → option_map_or (λ targets. texts targets.now.items) found [] ≡ texts (option_map_or (λ targets. targets.items) (option_copied found) [])
found_texts None = refl
found_texts (Some targets) = refl

kept : (b : Bool) (edge : Bor (List ℕ) × Bor (List ℕ)) (edges : List (Bor (List ℕ) × Bor (List ℕ))) (more : List (List ℕ × List ℕ))
    → texts (map (λ edge. edge.1) edges) ≡ map (λ edge. edge.1) more
    → texts (map (λ edge. edge.1) (cond b (edge ∷ edges) edges)) ≡ map (λ edge. edge.1) (cond b ((edge.0.now, edge.1.now) ∷ more) more)
kept true edge edges more same = ap (λ (list : List (List ℕ)). edge.1.now ∷ list) same
kept false edge edges more same = same

ends : (node : List ℕ) (edges : List (Bor (List ℕ) × Bor (List ℕ)))
    → texts (map (λ edge. edge.1) (filter (λ edge. bytes_eq node edge.0.now) edges)) ≡ targets_of (edge_texts edges) node
ends node [] = refl
ends node (edge ∷ edges) =
    kept (bytes_eq node edge.0.now) edge (filter (λ other. bytes_eq node other.0.now) edges) (filter (λ other. bytes_eq node other.0) (edge_texts edges)) (ends node edges)

pub targets_found : (node : List ℕ) (edges : List (Bor (List ℕ) × Bor (List ℕ))) (view : List (List ℕ × List ℕ)) (found : Option (Bor (Vec (Bor (List ℕ)) Global)))
    → option_map_or (λ targets. targets.items) (option_copied found) [] ≡ map (λ edge. edge.1) (filter (λ edge. bytes_eq node edge.0.now) edges)
    → edge_texts edges ≡ view
    → option_map_or (λ targets. texts targets.now.items) found [] ≡ targets_of view node
targets_found node edges view found has is =
    found_texts found ∙ ap texts has ∙ ends node edges ∙ ap (λ (list : List (List ℕ × List ℕ)). targets_of list node) is
