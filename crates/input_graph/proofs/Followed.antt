-- The edges of a node.
use Rattle.std.proofs.Common.{◌≡◌, ℕ, List, [], ◌∷◌, All, cond, true, false, Bool, refl, sym, ap, ⊎_elim, subst, map}
use Rattle.std.specs.Prelude.{filter}
use Rattle.std.specs.List.{Contains}
use Rattle.std.specs.Str.{bytes_eq}
use Rattle.std.proofs.lemmas.List.Elements.{All-cons, All-nil, All-weaker}
use Rattle.std.proofs.lemmas.Slice.Eq.{bytes_eq-Decides}
use Rattle.input_graph.specs.Targets.{targets_of}
use Rattle.input_graph.proofs.Members.{front_or_further, further, in_front, no_member}

-- each target is the end of an edge of the node
followed_if : (edges : List (List ℕ × List ℕ)) (node to : List ℕ) (rest : List (List ℕ)) (b : Bool) (from : List ℕ) → bytes_eq node from ≡ b
    → All (λ t. Contains ((from, to) ∷ edges) (node, t)) rest → All (λ t. Contains ((from, to) ∷ edges) (node, t)) (cond b (to ∷ rest) rest)
followed_if edges node to rest true from is all =
    All-cons (λ t. Contains ((from, to) ∷ edges) (node, t)) to rest
    (subst (λ (n : List ℕ). Contains ((from, to) ∷ edges) (n, to)) (sym ((bytes_eq-Decides node from).0 is)) (in_front (from, to) edges)) all
followed_if edges node to rest false from is all = all

map_cond : (b : Bool) (e : List ℕ × List ℕ) (es : List (List ℕ × List ℕ)) → map (λ (edge : List ℕ × List ℕ). edge.1) (cond b (e ∷ es) es) ≡ cond b (e.1 ∷ map (λ edge. edge.1) es) (map (λ edge. edge.1) es)
map_cond true e es = refl
map_cond false e es = refl

pub followed : (edges : List (List ℕ × List ℕ)) (node : List ℕ) → All (λ t. Contains edges (node, t)) (targets_of edges node)
followed [] node = All-nil (λ t. Contains [] (node, t))
followed (e ∷ es) node =
    subst (All (λ t. Contains (e ∷ es) (node, t))) (sym (map_cond (bytes_eq node e.0) e (filter (λ edge. bytes_eq node edge.0) es)))
    (followed_if es node e.1 (targets_of es node) (bytes_eq node e.0) e.0 refl
    (All-weaker (λ t. Contains es (node, t)) (λ t. Contains (e ∷ es) (node, t)) (λ t c. further e (node, t) es c) (targets_of es node) (followed es node)))

-- the end of each edge of the node is a target
taken : (b : Bool) (to t : List ℕ) (rest : List (List ℕ)) → Contains rest t → Contains (cond b (to ∷ rest) rest) t
taken true to t rest c = further to t rest c
taken false to t rest c = c

pub target : (edges : List (List ℕ × List ℕ)) (node to : List ℕ) → Contains edges (node, to) → Contains (targets_of edges node) to
target [] node to c = absurd (no_member (node, to) c)
target (e ∷ es) node to c =
    subst (λ (nodes : List (List ℕ)). Contains nodes to) (sym (map_cond (bytes_eq node e.0) e (filter (λ edge. bytes_eq node edge.0) es)))
    (⊎_elim
    (λ (is : e ≡ (node, to)).
    let yes : bytes_eq node e.0 ≡ true = (bytes_eq-Decides node e.0).1 (sym (ap (λ (p : List ℕ × List ℕ). p.0) is)) in
    subst (λ (b : Bool). Contains (cond b (e.1 ∷ targets_of es node) (targets_of es node)) to) (sym yes)
    (subst (λ (t : List ℕ). Contains (t ∷ targets_of es node) to) (sym (ap (λ (p : List ℕ × List ℕ). p.1) is)) (in_front to (targets_of es node))))
    (λ (more : Contains es (node, to)). taken (bytes_eq node e.0) e.1 to (targets_of es node) (target es node to more))
    (front_or_further e (node, to) es c))
