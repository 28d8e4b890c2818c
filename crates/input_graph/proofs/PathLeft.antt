-- How much of the search along a path is left.
use Rattle.std.proofs.Common.{◌≡◌, ◌<◌, ◌≤◌, ◌+◌, ◌-◌, ℕ, List, [], ◌∷◌, ◌++◌, Bor, length, cond, true, false, Bool, Some, sym, ap, ◌∙◌, ⊎_elim, arith, subst}
use Rattle.std.specs.Prelude.{◌||◌, slice_get}
use Rattle.std.specs.List.{Contains, list_any, sum_by}
use Rattle.std.specs.Str.{bytes_eq}
use Rattle.std.proofs.lemmas.List.Sums.{sum_by-cons, sum_by-le-sum_by, sum_by_push}
use Rattle.std.proofs.lemmas.Option.{slice_get_within}
use Rattle.input_graph.specs.declared.circle.Visit.{Visit}
use Rattle.input_graph.specs.Nodes.{with_node}
use Rattle.input_graph.specs.Targets.{targets_of}
use Rattle.input_graph.proofs.Members.{any_with, front_or_further, joins, member_found, no_member}

-- what is left once a node is on the path, and before
abbrev pub left_at : (edges : List (List ℕ × List ℕ)) → Visit → ℕ
left_at edges visit = 1 + (length (targets_of edges visit.node.now) - visit.passed)

abbrev pub left_before : (edges : List (List ℕ × List ℕ)) → (seen : List (List ℕ)) → List ℕ × List ℕ → ℕ
left_before edges seen edge = cond (list_any (bytes_eq edge.1) seen) 0 (2 + length (targets_of edges edge.1))

abbrev pub left_of : (edges : List (List ℕ × List ℕ)) → (seen : List (List ℕ)) → (path : List Visit) → ℕ
left_of edges seen path = sum_by (left_before edges seen) edges + sum_by (left_at edges) path

-- a node more is seen
never_more_if : (a b : Bool) (cost : ℕ) → cond (a || b) 0 cost ≤ cond a 0 cost
never_more_if true b cost = omega arith
never_more_if false true cost = omega arith
never_more_if false false cost = omega arith

never_more : (edges : List (List ℕ × List ℕ)) (seen : List (List ℕ)) (next : List ℕ) (edge : List ℕ × List ℕ) → left_before edges (with_node seen next) edge ≤ left_before edges seen edge
never_more edges seen next edge =
    let cost = 2 + length (targets_of edges edge.1) in
    subst (λ (b : Bool). cond b 0 cost ≤ left_before edges seen edge) (sym (any_with edge.1 seen next)) (never_more_if (list_any (bytes_eq edge.1) seen) (bytes_eq edge.1 next) cost)

module _ (edges : List (List ℕ × List ℕ)) (seen : List (List ℕ)) (next : List ℕ) (new : list_any (bytes_eq next) seen ≡ false) (now : list_any (bytes_eq next) (with_node seen next) ≡ true) where
  less_before : (es : List (List ℕ × List ℕ)) (from : List ℕ) → Contains es (from, next)
      → sum_by (left_before edges (with_node seen next)) es + (2 + length (targets_of edges next)) ≤ sum_by (left_before edges seen) es
  less_before [] from c = absurd (no_member (from, next) c)
  less_before (e ∷ es) from c =
      let whole = sum_by-cons (left_before edges seen) e es in
      let part = sum_by-cons (left_before edges (with_node seen next)) e es in
      let none = never_more edges seen next e in
      ⊎_elim
      (λ (is : e ≡ (from, next)).
      let to : e.1 ≡ next = ap (λ (p : List ℕ × List ℕ). p.1) is in
      let had : left_before edges seen e ≡ 2 + length (targets_of edges next) = ap (λ (n : List ℕ). cond (list_any (bytes_eq n) seen) 0 (2 + length (targets_of edges n))) to ∙ ap (λ (b : Bool). cond b 0 (2 + length (targets_of edges next))) new in
      let has : left_before edges (with_node seen next) e ≡ 0 = ap (λ (n : List ℕ). cond (list_any (bytes_eq n) (with_node seen next)) 0 (2 + length (targets_of edges n))) to ∙ ap (λ (b : Bool). cond b 0 (2 + length (targets_of edges next))) now in
      let others = sum_by-le-sum_by (left_before edges (with_node seen next)) (left_before edges seen) es (never_more edges seen next) in
      omega (arith, whole, part, had, has, others))
      (λ (more : Contains es (from, next)). let rest = less_before es from more in omega (arith, whole, part, none, rest))
      (front_or_further e (from, next) es c)

module _ (edges : List (List ℕ × List ℕ)) (seen : List (List ℕ)) (path rest : List Visit) (top : Visit) (popped : path ≡ rest ++ top ∷ []) where
  with_top : sum_by (left_at edges) path ≡ sum_by (left_at edges) rest + left_at edges top
  with_top = ap (sum_by (left_at edges)) popped ∙ sum_by_push (left_at edges) rest top

  pub less_passed : (next : List ℕ) (new : List Visit) → Some next ≡ slice_get (targets_of edges top.node.now) top.passed
      → new ≡ rest ++ record { node = top.node; passed = top.passed + 1 } ∷ [] → left_of edges seen new < left_of edges seen path
  less_passed next new at is =
      let moved : Visit = record { node = top.node; passed = top.passed + 1 } in
      let inside = slice_get_within (targets_of edges top.node.now) top.passed next (sym at) in
      let was = with_top in
      let sum : sum_by (left_at edges) new ≡ sum_by (left_at edges) rest + left_at edges moved = ap (sum_by (left_at edges)) is ∙ sum_by_push (left_at edges) rest moved in
      omega (arith, was, sum, inside)

  pub less_entered : (next : Bor (List ℕ)) (now : List (List ℕ)) (back new : List Visit) → Contains edges (top.node.now, next.now) → list_any (bytes_eq next.now) seen ≡ false
      → now ≡ with_node seen next.now → back ≡ rest ++ top ∷ [] → new ≡ back ++ record { node = next; passed = 0 } ∷ [] → left_of edges now new < left_of edges seen path
  less_entered next now back new edge unseen joined pushed is =
      let entered : Visit = record { node = next; passed = 0 } in
      let j = joins seen next.now in
      let before = less_before edges seen next.now unseen (member_found next.now (with_node seen next.now) j.has) edges top.node.now edge in
      let was : sum_by (left_at edges) back ≡ sum_by (left_at edges) path = ap (sum_by (left_at edges)) (pushed ∙ sym popped) in
      let sum : sum_by (left_at edges) new ≡ sum_by (left_at edges) back + left_at edges entered = ap (sum_by (left_at edges)) is ∙ sum_by_push (left_at edges) back entered in
      subst (λ (list : List (List ℕ)). left_of edges list new < left_of edges seen path) (sym joined) (omega (arith, before, was, sum))
