-- The waits that a graph of a plan states are ranked.
use Rattle.std.proofs.Common.{◌≡◌, ◌∙◌, ◌+◌, ◌-◌, ◌<◌, ◌≤◌, ℕ, zero, suc, Bool, true, false, cond, eqb, List, [], ◌∷◌, ◌++◌, drop, get_or, length, Option, None, Some, refl, sym, ap, ap₂, arith, subst, ⊎_elim}
use Rattle.std.specs.Prelude.{IfSome, filter_map, option_map, slice_get, unwrap_or}
use Rattle.std.specs.List.{Contains, cons_option, zip}
use Rattle.std.proofs.lemmas.List.{get_or_past}
use Rattle.std.proofs.lemmas.List.Elements.{All-contains}
use Rattle.std.proofs.lemmas.Option.{get_or_from_slice_get, slice_get-get_or, slice_get-map, slice_get_cases}
use Rattle.apply_model.specs.declared.plan.step_kind.StepKind.{StepKind}
use Rattle.apply_model.specs.Plan.ResourceChange.{ResourceChange}
use Rattle.input_graph.specs.AllWaits.{AreAllWaits}
use Rattle.input_graph.specs.Circles.{AreRanked}
use Rattle.input_graph.specs.NamedGraph.{NamedGraph}
use Rattle.input_graph.specs.PlanEdges.{change_edge, change_edges, plan_edges}
use Rattle.input_graph.specs.StepNodes.{names_of, step_named}
use Rattle.input_graph.specs.Waits.{Reaches, WaitsFor, by_edge, known_edges, through}
use Rattle.input_graph.specs.declared.step_node.StepNode.{StepNode}
use Rattle.input_graph.proofs.Numbered.{named}
use Rattle.stream_record_steps.specs.Steps.{PlannedStep, is_first_step, planned_from, planned_steps, steps_from}
use Rattle.stream_record_waits.specs.Graph.{waits_at}
use Rattle.stream_record_cli.specs.StepNames.{nodes_from, nodes_of_change, step_nodes}
use Rattle.laws_recorded.specs.Graphs.{IsRankedGraph}
use Rattle.laws_recorded.proofs.Items.{get_drop}
use Rattle.laws_recorded.proofs.Places.{get_either, get_first, get_second, later_place, length-steps_from}
use Rattle.laws_recorded.proofs.Planned.{contains_at}
use Rattle.laws_recorded.proofs.RunOrder.{item_before}

-- ---- lists

contained : {X : Type 0} (xs : List X) (x : X) → Contains xs x → (k : ℕ) × (slice_get xs k ≡ Some x)
contained xs x (k, less, is) = (k, slice_get-get_or xs k x less ∙ ap Some is)

in_first : {X : Type 0} (xs ys : List X) (x : X) → Contains xs x → Contains (xs ++ ys) x
in_first xs ys x has = let at = contained xs x has in contains_at (xs ++ ys) at.0 x (get_first xs ys at.0 x at.1)

in_second : {X : Type 0} (xs ys : List X) (x : X) → Contains ys x → Contains (xs ++ ys) x
in_second xs ys x has = let at = contained ys x has in contains_at (xs ++ ys) (length xs + at.0) x (get_second xs ys at.0 ∙ at.1)

zip_at : {A B : Type 0} (xs : List A) (ys : List B) (k : ℕ) (x : A) (y : B) → slice_get xs k ≡ Some x → slice_get ys k ≡ Some y → slice_get (zip xs ys) k ≡ Some (x, y)
zip_at [] ys k x y one other = absurd cc
zip_at (a ∷ xs) [] k x y one other = absurd cc
zip_at {A = A} {B = B} (a ∷ xs) (b ∷ ys) zero x y one other =
    let first : a ≡ x = cc in
    let second : b ≡ y = cc in ap₂ (λ (u : A) (v : B). Some (u, v)) first second
zip_at (a ∷ xs) (b ∷ ys) (suc k) x y one other = zip_at xs ys k x y one other

later_item : {Y : Type 0} (o : Option Y) (ys : List Y) (y : Y) → Contains ys y → Contains (cons_option o ys) y
later_item None ys y has = has
later_item (Some first) ys y has = in_second (first ∷ []) ys y has

kept_by : {X Y : Type 0} (f : X → Option Y) (xs : List X) (k : ℕ) (x : X) (y : Y) → slice_get xs k ≡ Some x → f x ≡ Some y → Contains (filter_map f xs) y
kept_by f [] k x y at is = absurd cc
kept_by {Y = Y} f (first ∷ xs) zero x y at is =
    let same : first ≡ x = cc in
    subst (λ (o : Option Y). Contains (cons_option o (filter_map f xs)) y) (sym (ap f same ∙ is)) (contains_at (y ∷ filter_map f xs) 0 y refl)
kept_by f (first ∷ xs) (suc k) x y at is = later_item (f first) (filter_map f xs) y (kept_by f xs k x y at is)

-- ---- the nodes of the steps

-- the node of a step, which follows if the step is not the first of its change
abbrev IsNodeOf : PlannedStep → List StepNode → ℕ → Type 0
IsNodeOf step nodes i = (node : StepNode) × (slice_get nodes i ≡ Some node) × (is_first_step step ≡ false → node.follows ≡ true)

node_in_change : (change own : ResourceChange) (c number place : ℕ) (follows : Bool) (kinds : List StepKind) (i : ℕ) (step : PlannedStep) → (eqb number 0 ≡ false → follows ≡ true)
    → slice_get (steps_from change c number place kinds) i ≡ Some step → IsNodeOf step (nodes_from own follows kinds) i
node_in_change change own c number place follows [] i step same at = absurd cc
node_in_change change own c number place follows (kind ∷ kinds) zero step same at =
    let one : PlannedStep = record { change = change; change_number = c; number = number; place = place; kind = kind } in
    let it : step ≡ one = cc in
    (_, refl, λ later. same (sym (ap is_first_step it) ∙ later))
node_in_change change own c number place follows (kind ∷ kinds) (suc i) step same at =
    node_in_change change own c (number + 1) (place + 1) true kinds i step (λ later. refl) at

length-nodes : (change : ResourceChange) (follows : Bool) (kinds : List StepKind) → length (nodes_from change follows kinds) ≡ length kinds
length-nodes change follows [] = refl
length-nodes change follows (kind ∷ kinds) = ap suc (length-nodes change true kinds)

node_at : (changes : List ResourceChange) (n place i : ℕ) (step : PlannedStep) → slice_get (planned_from n place changes) i ≡ Some step → IsNodeOf step (step_nodes changes) i
node_at [] n place i step at = absurd cc
node_at (change ∷ changes) n place i step at = ⊎_elim
    (λ (first : slice_get (steps_from change n 0 place change.steps) i ≡ Some step).
    let own = node_in_change change change n 0 place false change.steps i step (λ later. let no : true ≡ false = later in absurd cc) first in
    (own.0, get_first (nodes_of_change change) (step_nodes changes) i own.0 own.1, own.2))
    (λ (second : (j : ℕ) × (i ≡ length (steps_from change n 0 place change.steps) + j) × (slice_get (planned_from (n + 1) (place + length change.steps) changes) j ≡ Some step)).
    let own = node_at changes (n + 1) (place + length change.steps) second.0 step second.2 in
    let many = length-nodes change false change.steps in
    let as_many = length-steps_from change n 0 place change.steps in
    let here = second.1 in
    let j = second.0 in
    let spot : i ≡ length (nodes_of_change change) + j = omega (arith, here, many, as_many) in
    (own.0, ap (slice_get (step_nodes (change ∷ changes))) spot ∙ get_second (nodes_of_change change) (step_nodes changes) j ∙ own.1, own.2))
    (get_either (steps_from change n 0 place change.steps) (planned_from (n + 1) (place + length change.steps) changes) i step at)

module _ (changes : List ResourceChange) (graph : NamedGraph) (ranked : AreRanked (plan_edges (step_nodes changes) graph)) where
  abbrev names : List (List ℕ)
  names = names_of (step_nodes changes)

  abbrev edges : List (List ℕ × List ℕ)
  edges = known_edges (names_of (step_nodes changes)) graph

  -- the rank of the node of a step
  abbrev rank_at : ℕ → ℕ
  rank_at place = ranked.rank (unwrap_or (slice_get (names_of (step_nodes changes)) place) [])

  rank_is : (place : ℕ) (name : List ℕ) → slice_get (names_of (step_nodes changes)) place ≡ Some name → rank_at place ≡ ranked.rank name
  rank_is place name at = ap (λ (o : Option (List ℕ)). ranked.rank (unwrap_or o [])) at

  falls : (from to : List ℕ) → Contains (plan_edges (step_nodes changes) graph) (from, to) → ranked.rank to < ranked.rank from
  falls from to has = All-contains (λ (edge : List ℕ × List ℕ). ranked.rank edge.1 < ranked.rank edge.0) (plan_edges (step_nodes changes) graph) (from, to) ranked.falls has

  along : (from to : List ℕ) → Contains (known_edges (names_of (step_nodes changes)) graph) (from, to) → ranked.rank to < ranked.rank from
  along from to has = falls from to (in_first (known_edges (names_of (step_nodes changes)) graph) (change_edges (step_nodes changes)) (from, to) has)

  reached : (start to : List ℕ) → Reaches (names_of (step_nodes changes)) (known_edges (names_of (step_nodes changes)) graph) start to → ranked.rank to < ranked.rank start
  reached start to (by_edge _ has) = along start to has
  reached start to (through node _ path off has) =
      let before = reached start node path in
      let last = along node to has in omega (arith, before, last)

  named_as : (node : List ℕ) (other : ℕ) (o : Option ℕ) → o ≡ Some other → o ≡ step_named (names_of (step_nodes changes)) node → slice_get (names_of (step_nodes changes)) other ≡ Some node
  named_as node other o is named_is =
      subst (λ (o : Option ℕ). IfSome o (λ n. slice_get (names_of (step_nodes changes)) n ≡ Some node)) is (named (names_of (step_nodes changes)) node o named_is)

  -- a step that waits for another has a higher rank
  waits_lower : (place other : ℕ) → WaitsFor (names_of (step_nodes changes)) (known_edges (names_of (step_nodes changes)) graph) place other → rank_at other < rank_at place
  waits_lower place other waits =
      let first = rank_is place waits.start waits.starts in
      let second = rank_is other waits.node (named_as waits.node other (step_named (names_of (step_nodes changes)) waits.node) waits.names refl) in
      let less = reached waits.start waits.node waits.reaches in omega (arith, first, second, less)

  -- and so has the second step of a change
  before_lower : (place : ℕ) (step : PlannedStep) → slice_get (planned_steps changes) place ≡ Some step → is_first_step step ≡ false → rank_at (place - 1) < rank_at place
  before_lower place step at later =
      let nodes = step_nodes changes in
      let own = node_at changes 0 0 place step at in
      let positive = later_place changes place step at later in
      let other = item_before nodes place (place - 1) own.0 (omega arith) own.1 in
      let spot : 1 + (place - 1) ≡ place = omega (arith, positive) in
      let pair = zip_at nodes (drop 1 nodes) (place - 1) other.0 own.0 other.1 (get_drop 1 nodes (place - 1) ∙ ap (slice_get nodes) spot ∙ own.1) in
      let edge : change_edge (other.0, own.0) ≡ Some (own.0.name, other.0.name) = ap (λ (b : Bool). cond b (Some (own.0.name, other.0.name)) None) (own.2 later) in
      let kept = kept_by change_edge (zip nodes (drop 1 nodes)) (place - 1) (other.0, own.0) (own.0.name, other.0.name) pair edge in
      let less = falls own.0.name other.0.name (in_second (known_edges (names_of nodes) graph) (change_edges nodes) (own.0.name, other.0.name) kept) in
      let first = rank_is place own.0.name (slice_get-map (λ (s : StepNode). s.name) nodes place ∙ ap (option_map (λ (s : StepNode). s.name)) own.1) in
      let second = rank_is (place - 1) other.0.name (slice_get-map (λ (s : StepNode). s.name) nodes (place - 1) ∙ ap (option_map (λ (s : StepNode). s.name)) other.1) in
      omega (arith, first, second, less)

nothing : (other : ℕ) → Contains [] other → ⊥
nothing other (k, less, is) = omega (arith, less)

-- the waits of a graph without a circle are ranked
pub graph_ranked : (changes : List ResourceChange) (graph : NamedGraph) (waits : List (List ℕ)) → AreAllWaits (names_of (step_nodes changes)) graph waits → AreRanked (plan_edges (step_nodes changes) graph)
    → IsRankedGraph (planned_steps changes) waits
graph_ranked changes graph waits are ranked = record {
  rank = λ place. ranked.rank (unwrap_or (slice_get (names_of (step_nodes changes)) place) []);
  waits = λ place other within has. ⊎_elim
      (λ (there : (x : List ℕ) × (place < length waits) × (slice_get waits place ≡ Some x) × (get_or waits place x ≡ x)).
      let same : waits_at waits place ≡ there.0 = get_or_from_slice_get waits place there.0 [] there.2 in
      waits_lower changes graph ranked place other ((are.waits place there.0 there.2).sound other (subst (λ (ns : List ℕ). Contains ns other) same has)))
      (λ (past : (length waits ≤ place) × (slice_get waits place ≡ None)).
      absurd (nothing other (subst (λ (ns : List ℕ). Contains ns other) (get_or_past waits place [] past.0) has)))
      (slice_get_cases waits place).1;
  before = λ place step at later. before_lower changes graph ranked place step at later;
}

-- where no step waits, the steps are ranked by their places
pub without_graph : (changes : List ResourceChange) → IsRankedGraph (planned_steps changes) []
without_graph changes = record {
  rank = λ place. place;
  waits = λ place other within has. absurd (nothing other (subst (λ (ns : List ℕ). Contains ns other) (get_or_past [] place [] (omega arith)) has));
  before = λ place step at later. let positive = later_place changes place step at later in omega (arith, positive);
}
