-- The edges between steps of one change, one more at a time.
use Rattle.std.proofs.Common.{◌≡◌, ◌<◌, ◌≤◌, ◌+◌, ◌-◌, ℕ, List, [], ◌∷◌, ◌++◌, Bor, length, take, drop, get_or, cond, true, false, Bool, Option, Some, None, refl, sym, ap, ◌∙◌, arith, length-drop, append_assoc}
use Rattle.std.specs.Prelude.{option_to_list}
use Rattle.std.specs.List.{cons_option, filter_map, zip}
use Rattle.std.proofs.lemmas.List.{append-nil, get_or-drop, map-append, take_all, take_more}
use Rattle.std.proofs.lemmas.List.Elements.{filter_map-append}
use Rattle.std.proofs.lemmas.Slice.Zip.{get_or-zip, length-zip}
use Rattle.input_graph.specs.declared.step_node.StepNode.{StepNode}
use Rattle.input_graph.specs.PlanEdges.{change_edge, change_edges}
use Rattle.input_graph.specs.Targets.{edge_texts}

-- each step with the next one
abbrev pub pairs_of : List StepNode → List (StepNode × StepNode)
pairs_of steps = zip steps (drop 1 steps)

abbrev pub first_edges : List StepNode → ℕ → List (List ℕ × List ℕ)
first_edges steps k = filter_map change_edge (take k (pairs_of steps))

length_pairs : (steps : List StepNode) → length (pairs_of steps) ≡ length steps - 1
length_pairs steps = let pairs = length-zip steps (drop 1 steps) in let rest = length-drop 1 steps in omega (arith, pairs, rest)

pair_at : (steps : List StepNode) (k : ℕ) (one two : StepNode) → k + 1 < length steps → one ≡ get_or steps k one → two ≡ get_or steps (k + 1) two
    → get_or (pairs_of steps) k (one, two) ≡ (one, two)
pair_at steps k one two within first second =
    let rest = length-drop 1 steps in
    let swapped : 1 + k ≡ k + 1 = omega arith in
    get_or-zip steps (drop 1 steps) k (one, two) (omega (arith, within)) (omega (arith, within, rest))
    ∙ ap (λ (x : StepNode). (x, get_or (drop 1 steps) k two)) (sym first)
    ∙ ap (λ (y : StepNode). (one, y)) (get_or-drop 1 steps k two ∙ ap (λ (n : ℕ). get_or steps n two) swapped ∙ sym second)

alone : {X : Type 0} (o : Option X) → cons_option o [] ≡ option_to_list o
alone None = refl
alone (Some x) = refl

pub edges_more : (steps : List StepNode) (k : ℕ) (one two : StepNode) → k + 1 < length steps → one ≡ get_or steps k one → two ≡ get_or steps (k + 1) two
    → first_edges steps (k + 1) ≡ first_edges steps k ++ option_to_list (change_edge (one, two))
edges_more steps k one two within first second =
    let long = length_pairs steps in
    ap (filter_map change_edge) (take_more (pairs_of steps) k (one, two) (omega (arith, within, long)))
    ∙ filter_map-append change_edge (take k (pairs_of steps)) (get_or (pairs_of steps) k (one, two) ∷ [])
    ∙ ap (λ (pair : StepNode × StepNode). first_edges steps k ++ cons_option (change_edge pair) []) (pair_at steps k one two within first second)
    ∙ ap (λ (list : List (List ℕ × List ℕ)). first_edges steps k ++ list) (alone (change_edge (one, two)))

pub all_edges : (steps : List StepNode) (k : ℕ) → length steps ≤ k + 1 → first_edges steps k ≡ change_edges steps
all_edges steps k last = let long = length_pairs steps in ap (filter_map change_edge) (take_all k (pairs_of steps) (omega (arith, long, last)))

-- a step more
module _ (steps : List StepNode) (place : ℕ) (one two : StepNode) (before : List (List ℕ × List ℕ)) (edges new : List (Bor (List ℕ) × Bor (List ℕ)))
    (some : 1 ≤ place) (within : place < length steps) (first : one ≡ get_or steps (place - 1) one) (second : two ≡ get_or steps place two)
    (so_far : edge_texts edges ≡ before ++ first_edges steps (place - 1)) where
  one_step : first_edges steps (place + 1 - 1) ≡ first_edges steps (place - 1) ++ option_to_list (change_edge (one, two))
  one_step =
      let here : place - 1 + 1 ≡ place = omega (arith, some) in
      let next : place + 1 - 1 ≡ place - 1 + 1 = omega (arith, some) in
      ap (first_edges steps) next
      ∙ edges_more steps (place - 1) one two (omega (arith, some, within)) first (second ∙ ap (λ (k : ℕ). get_or steps k two) (sym here))

  with_edge : (b : Bool) → two.follows ≡ b → before ++ first_edges steps (place + 1 - 1) ≡ (before ++ first_edges steps (place - 1)) ++ option_to_list (cond b (Some (two.name, one.name)) None)
  with_edge b is =
      ap (λ (list : List (List ℕ × List ℕ)). before ++ list) (one_step ∙ ap (λ (t : Bool). first_edges steps (place - 1) ++ option_to_list (cond t (Some (two.name, one.name)) None)) is)
      ∙ sym (append_assoc before (first_edges steps (place - 1)) (option_to_list (cond b (Some (two.name, one.name)) None)))

  pub edge_joins : (from to : Bor (List ℕ)) → two.follows ≡ true → from.now ≡ two.name → to.now ≡ one.name → new ≡ edges ++ (from, to) ∷ [] → edge_texts new ≡ before ++ first_edges steps (place + 1 - 1)
  edge_joins from to follows named other is =
      ap edge_texts is
      ∙ map-append (λ (edge : Bor (List ℕ) × Bor (List ℕ)). (edge.0.now, edge.1.now)) edges ((from, to) ∷ [])
      ∙ ap (λ (list : List (List ℕ × List ℕ)). list ++ (from.now, to.now) ∷ []) so_far
      ∙ ap (λ (name : List ℕ). (before ++ first_edges steps (place - 1)) ++ (name, to.now) ∷ []) named
      ∙ ap (λ (name : List ℕ). (before ++ first_edges steps (place - 1)) ++ (two.name, name) ∷ []) other
      ∙ sym (with_edge true follows)

  pub no_edge_joins : two.follows ≡ false → new ≡ edges → edge_texts new ≡ before ++ first_edges steps (place + 1 - 1)
  no_edge_joins alone is = ap edge_texts is ∙ so_far ∙ sym (append-nil (before ++ first_edges steps (place - 1))) ∙ sym (with_edge false alone)
