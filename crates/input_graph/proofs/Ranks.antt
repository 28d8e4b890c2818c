-- Ranks of nodes by their places in a list, and circles.
use Rattle.std.proofs.Common.{◌≡◌, ◌<◌, ℕ, zero, suc, List, [], ◌∷◌, All, take, get_or, cond, true, false, Bool, Some, refl, sym, ap, ◌∙◌, ⊎_elim, arith}
use Rattle.std.specs.Prelude.{slice_get}
use Rattle.std.specs.List.{Contains}
use Rattle.std.specs.Str.{bytes_eq}
use Rattle.std.proofs.lemmas.Bool.{true≢false}
use Rattle.std.proofs.lemmas.List.Elements.{All-contains, Contains-get_or}
use Rattle.std.proofs.lemmas.Slice.Eq.{bytes_eq-Decides}
use Rattle.input_graph.specs.Circles.{AreRanked, HasNoCircle, Leads, by_more, by_one}
use Rattle.input_graph.specs.CircleSearch.{AreInOrder}
use Rattle.input_graph.specs.Targets.{targets_of}
use Rattle.input_graph.proofs.Followed.{target}
use Rattle.input_graph.proofs.Members.{front_or_further, no_member}

-- the place of a node in a list, or the length
pub place_of : (nodes : List (List ℕ)) → (node : List ℕ) → ℕ
place_of [] node = 0
place_of (x ∷ xs) node = cond (bytes_eq node x) 0 (suc (place_of xs node))

same_node : (node : List ℕ) → bytes_eq node node ≡ true
same_node node = (bytes_eq-Decides node node).1 refl

-- a node of the list stands at its place
found_if : (x : List ℕ) (xs : List (List ℕ)) (node : List ℕ) (b : Bool) → bytes_eq node x ≡ b → (Contains xs node → slice_get xs (place_of xs node) ≡ Some node)
    → Contains (x ∷ xs) node → slice_get (x ∷ xs) (cond b 0 (suc (place_of xs node))) ≡ Some node
found_if x xs node true is rest c = ap Some (sym ((bytes_eq-Decides node x).0 is))
found_if x xs node false is rest c = rest (⊎_elim
    (λ (same : x ≡ node). absurd (true≢false (sym (same_node node) ∙ ap (bytes_eq node) (sym same) ∙ is)))
    (λ (more : Contains xs node). more)
    (front_or_further x node xs c))

pub found : (nodes : List (List ℕ)) (node : List ℕ) → Contains nodes node → slice_get nodes (place_of nodes node) ≡ Some node
unfolding place_of
found [] node c = absurd (no_member node c)
found (x ∷ xs) node c = found_if x xs node (bytes_eq node x) refl (found xs node) c

-- among the first nodes, it stands before their end
before_if : (x : List ℕ) (xs : List (List ℕ)) (node : List ℕ) (k : ℕ) (b : Bool) → bytes_eq node x ≡ b → (Contains (take k xs) node → place_of xs node < k)
    → Contains (x ∷ take k xs) node → cond b 0 (suc (place_of xs node)) < suc k
before_if x xs node k true is rest c = omega arith
before_if x xs node k false is rest c = let less = rest (⊎_elim
    (λ (same : x ≡ node). absurd (true≢false (sym (same_node node) ∙ ap (bytes_eq node) (sym same) ∙ is)))
    (λ (more : Contains (take k xs) node). more)
    (front_or_further x node (take k xs) c)) in omega (arith, less)

pub before : (k : ℕ) (nodes : List (List ℕ)) (node : List ℕ) → Contains (take k nodes) node → place_of nodes node < k
unfolding place_of
before zero nodes node c = absurd (no_member node c)
before (suc k) [] node c = absurd (no_member node c)
before (suc k) (x ∷ xs) node c = before_if x xs node k (bytes_eq node x) refl (before k xs node) c

-- nodes in order are ranked by their places
pub ranked : (edges : List (List ℕ × List ℕ)) (done : List (List ℕ)) → AreInOrder edges done → All (λ edge. Contains done edge.0) edges → AreRanked edges
ranked edges done ordered begun = record {
  rank = place_of done;
  falls = λ k edge within.
      let e : List ℕ × List ℕ = get_or edges k edge in
      let c = begun k edge within in
      let to : Contains (targets_of edges e.0) e.1 = target edges e.0 e.1 (Contains-get_or edges k edge within) in
      before (place_of done e.0) done e.1 (All-contains (Contains (take (place_of done e.0) done)) (targets_of edges e.0) e.1 (ordered (place_of done e.0) e.0 (found done e.0 c)) to);
}

-- ranks fall along a path, so no path leads back
falls_along : (edges : List (List ℕ × List ℕ)) (ranks : AreRanked edges) (from to : List ℕ) → Leads edges from to → ranks.rank to < ranks.rank from
falls_along edges ranks from to (by_one _ edge) = All-contains (λ edge. ranks.rank edge.1 < ranks.rank edge.0) edges (from, to) ranks.falls edge
falls_along edges ranks from to (by_more node _ path edge) =
    let less = falls_along edges ranks from node path in
    let last = All-contains (λ edge. ranks.rank edge.1 < ranks.rank edge.0) edges (node, to) ranks.falls edge in
    omega (arith, less, last)

pub no_circle : (edges : List (List ℕ × List ℕ)) → AreRanked edges → HasNoCircle edges
no_circle edges ranks node circle = let less = falls_along edges ranks node node circle in omega (arith, less)
