-- A tournament tree: its root is the first of its leaves, also after a change of a leaf.
use Rattle.std.proofs.Common.{◌≡◌, ◌≢◌, ◌∙◌, ◌+◌, ◌-◌, ◌*◌, ◌/◌, ◌<◌, ◌≤◌, ℕ, zero, suc, List, Option, None, Some, length, set, sym, ap, arith, subst, ◌⊎◌, inl, inr, ⊎_elim}
use Rattle.std.proofs.lemmas.Bool.{cases_eq, cases_lt}
use Rattle.std.proofs.lemmas.List.{get_or-set_other, get_or-set_same}
use Rattle.stream_record_waits.specs.declared.course.ReadyTurn.{ReadyTurn}
use Rattle.stream_record_waits.specs.declared.ready_turns.ReadyTurns.{ReadyTurns}
use Rattle.stream_record_waits.specs.ReadyTurns.{IsFirstIn, IsNoLaterIf, IsParent, IsTree, first_of, node_at}
use Rattle.stream_record_waits.proofs.TurnOrder.{first_before_both, first_cases, if_on, if_refl}

-- a node is one of the two children of a node
pub child_of : (node : ℕ) → (node ≡ 2 * (node / 2)) ⊎ (node ≡ 2 * (node / 2) + 1)
child_of node = ⊎_elim
    (λ (is : node ≡ 2 * (node / 2)). inl is)
    (λ (ne : node ≢ 2 * (node / 2)). inr (omega (arith, ne)))
    (cases_eq node (2 * (node / 2)))

module _ (count : ℕ) (nodes : List (Option ReadyTurn)) (parents : (node : ℕ) → 0 < node → node < count → IsParent nodes node) where
  before_children : (node : ℕ) → 0 < node → node < count → IsNoLaterIf (node_at nodes node) (node_at nodes (2 * node)) × IsNoLaterIf (node_at nodes node) (node_at nodes (2 * node + 1))
  before_children node some within =
      subst (λ (o : Option ReadyTurn). IsNoLaterIf o (node_at nodes (2 * node)) × IsNoLaterIf o (node_at nodes (2 * node + 1))) (sym (parents node some within))
      (first_before_both (node_at nodes (2 * node)) (node_at nodes (2 * node + 1)))

  -- nothing goes before the root
  pub root_before : (most node : ℕ) → node ≤ most → 0 < node → node < 2 * count → IsNoLaterIf (node_at nodes 1) (node_at nodes node)
  root_before zero node few some within = absurd (omega (arith, few, some))
  root_before (suc most) node few some within = ⊎_elim
      (λ (is : node ≡ 1). subst (λ (k : ℕ). IsNoLaterIf (node_at nodes 1) (node_at nodes k)) (sym is) (if_refl (node_at nodes 1)))
      (λ (ne : node ≢ 1).
      let half = node / 2 in
      let low : 0 < half = omega (arith, some, ne) in
      let inside : half < count = omega (arith, within) in
      let above = root_before most half (omega (arith, few, some)) low (omega (arith, inside)) in
      let both = before_children half low inside in ⊎_elim
      (λ (is : node ≡ 2 * half). subst (λ (k : ℕ). IsNoLaterIf (node_at nodes 1) (node_at nodes k)) (sym is) (if_on (node_at nodes 1) (node_at nodes half) (node_at nodes (2 * half)) above both.0))
      (λ (is : node ≡ 2 * half + 1). subst (λ (k : ℕ). IsNoLaterIf (node_at nodes 1) (node_at nodes k)) (sym is) (if_on (node_at nodes 1) (node_at nodes half) (node_at nodes (2 * half + 1)) above both.1))
      (child_of node))
      (cases_eq node 1)

  pub record IsLeaf (turn : ReadyTurn) : Type 0 where
    pub step : ℕ
    pub within : step < count
    pub has : node_at nodes (count + step) ≡ Some turn

  -- the turn of a node is that of a leaf
  pub leaf_of : (most node : ℕ) (turn : ReadyTurn) → 2 * count ≤ node + most → 0 < node → node < 2 * count → node_at nodes node ≡ Some turn → IsLeaf turn
  leaf_of zero node turn few some within is = absurd (omega (arith, few, within))
  leaf_of (suc most) node turn few some within is = ⊎_elim
      (λ (inside : node < count). ⊎_elim
      (λ (c : (first_of (node_at nodes (2 * node)) (node_at nodes (2 * node + 1)) ≡ node_at nodes (2 * node)) × IsNoLaterIf (node_at nodes (2 * node)) (node_at nodes (2 * node + 1))).
      leaf_of most (2 * node) turn (omega (arith, few, some)) (omega (arith, some)) (omega (arith, inside)) (sym c.0 ∙ sym (parents node some inside) ∙ is))
      (λ (c : (first_of (node_at nodes (2 * node)) (node_at nodes (2 * node + 1)) ≡ node_at nodes (2 * node + 1)) × IsNoLaterIf (node_at nodes (2 * node + 1)) (node_at nodes (2 * node))).
      leaf_of most (2 * node + 1) turn (omega (arith, few, some)) (omega (arith, some)) (omega (arith, inside)) (sym c.0 ∙ sym (parents node some inside) ∙ is))
      (first_cases (node_at nodes (2 * node)) (node_at nodes (2 * node + 1))))
      (λ (ge : count ≤ node).
      record {
        step = node - count;
        within = omega (arith, ge, within);
        has = ap (node_at nodes) (let e : count + (node - count) ≡ node = omega (arith, ge) in e) ∙ is;
      })
      (cases_lt node count)

pub root_is_first : (turns : ReadyTurns) → IsTree turns → 0 < turns.count → IsFirstIn turns (node_at turns.nodes.items 1)
root_is_first turns tree some = record {
  least = λ step within. root_before turns.count turns.nodes.items tree.parents (turns.count + step) (turns.count + step) (omega arith) (omega (arith, some)) (omega (arith, within));
  among = λ turn is.
      let leaf = leaf_of turns.count turns.nodes.items tree.parents (2 * turns.count) 1 turn (omega arith) (omega arith) (omega (arith, some)) is in
      record { step = leaf.step; within = leaf.within; has = leaf.has };
}

-- ---- a leaf changes, and the nodes above it

-- all nodes are parents but the one that has this child
abbrev pub ArePast : (count : ℕ) → List (Option ReadyTurn) → (child : ℕ) → Type 0
ArePast count nodes child = (node : ℕ) → 0 < node → node < count → 2 * node ≢ child → 2 * node + 1 ≢ child → IsParent nodes node

module _ (nodes : List (Option ReadyTurn)) (place : ℕ) (turn : Option ReadyTurn) where
  pub elsewhere : (other : ℕ) → other ≢ place → node_at (set nodes place turn) other ≡ node_at nodes other
  elsewhere other ne = get_or-set_other nodes place other turn None ne

  parent_stays : (node : ℕ) → node ≢ place → 2 * node ≢ place → 2 * node + 1 ≢ place → IsParent nodes node → IsParent (set nodes place turn) node
  parent_stays node ne first second is =
      elsewhere node ne ∙ is ∙ sym (ap (λ (o : Option ReadyTurn). first_of o (node_at (set nodes place turn) (2 * node + 1))) (elsewhere (2 * node) first)
      ∙ ap (first_of (node_at nodes (2 * node))) (elsewhere (2 * node + 1) second))

  -- a leaf
  pub leaf_set : (count : ℕ) → count ≤ place → ((node : ℕ) → 0 < node → node < count → IsParent nodes node) → ArePast count (set nodes place turn) place
  leaf_set count ge parents node some within first second = parent_stays node (λ is. omega (arith, is, ge, within)) first second (parents node some within)

  -- the node above
  pub above_set : (count child : ℕ) → 0 < place → place < length nodes → (child ≡ 2 * place) ⊎ (child ≡ 2 * place + 1)
      → turn ≡ first_of (node_at nodes (2 * place)) (node_at nodes (2 * place + 1)) → ArePast count nodes child → ArePast count (set nodes place turn) place
  above_set count child low inside halved is past node some within first second = ⊎_elim
      (λ (same : node ≡ place). subst (IsParent (set nodes place turn)) (sym same) here)
      (λ (ne : node ≢ place). parent_stays node ne first second (past node some within
      (λ twice. ne (⊎_elim (λ (e : child ≡ 2 * place). omega (arith, e, twice)) (λ (e : child ≡ 2 * place + 1). absurd (omega (arith, e, twice))) halved))
      (λ twice. ne (⊎_elim (λ (e : child ≡ 2 * place). absurd (omega (arith, e, twice))) (λ (e : child ≡ 2 * place + 1). omega (arith, e, twice)) halved))))
      (cases_eq node place)
    where
      here : IsParent (set nodes place turn) place
      here =
          get_or-set_same nodes place turn None inside ∙ is
          ∙ sym (ap (λ (o : Option ReadyTurn). first_of o (node_at (set nodes place turn) (2 * place + 1))) (elsewhere (2 * place) (λ e. omega (arith, e, low)))
          ∙ ap (first_of (node_at nodes (2 * place))) (elsewhere (2 * place + 1) (λ e. omega (arith, e))))
