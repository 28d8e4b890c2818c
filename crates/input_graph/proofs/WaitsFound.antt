-- The steps that a search finds are those for which a step waits.
use Rattle.std.proofs.Common.{◌≡◌, ◌∙◌, ℕ, List, eqb, get_or, length, Option, Some, None, sym, subst}
use Rattle.std.specs.Prelude.{slice_get}
use Rattle.std.specs.List.{Contains, dedup, filter_map}
use Rattle.std.specs.List.Sorted.{IsPermutation, IsSorted, IsStrictlyIncreasing}
use Rattle.std.specs.Ordering.{nat_cmp}
use Rattle.std.proofs.lemmas.List.Elements.{All-contains}
use Rattle.std.proofs.lemmas.List.Kept.{Contains-dedup_nat, Contains-from_dedup}
use Rattle.std.proofs.lemmas.List.Sorted.{Contains-permutation, IsPermutation-sym}
use Rattle.std.proofs.lemmas.Map.Keys.{IsStrictlyIncreasing-dedup}
use Rattle.std.proofs.lemmas.Option.{get_or_from_slice_get, slice_get_within}
use Rattle.input_graph.specs.Numbering.{HaveSteps}
use Rattle.input_graph.specs.Reached.{AreReached}
use Rattle.input_graph.specs.StepNodes.{step_named}
use Rattle.input_graph.specs.Waits.{AreWaits, Reaches, WaitsFor, unless_same}
use Rattle.input_graph.proofs.Among.{member_from, member_of, other_from, other_has}

module _ (steps : List (List ℕ)) (edges : List (List ℕ × List ℕ)) (step : ℕ) (start : List ℕ) (names : List (List ℕ)) (step_of : List (Option ℕ)) (nodes found sorted waits : List ℕ)
    (starts : slice_get steps step ≡ Some start) (knows : HaveSteps steps names step_of (length names)) (reached : AreReached steps edges names start nodes)
    (among : found ≡ filter_map (λ node. unless_same step (get_or step_of node None)) nodes)
    (moved : IsPermutation found sorted) (ascends : IsSorted nat_cmp sorted) (once : waits ≡ dedup eqb sorted) where
  -- the step of a found node
  step_at : (number : ℕ) (name : List ℕ) → slice_get names number ≡ Some name → get_or step_of number None ≡ step_named steps name
  step_at number name at =
      get_or_from_slice_get step_of number (step_named steps name) None (knows number name (slice_get_within names number name at) at)

  waits_are : (other : ℕ) → Contains waits other → WaitsFor steps edges step other
  waits_are other c =
      let in_sorted = Contains-from_dedup eqb sorted other (subst (λ (list : List ℕ). Contains list other) once c) in
      let in_found = Contains-permutation sorted found other (IsPermutation-sym found sorted moved) in_sorted in
      let node = member_from (λ (node : ℕ). unless_same step (get_or step_of node None)) nodes other (subst (λ (list : List ℕ). Contains list other) among in_found) in
      let is = other_from step other (get_or step_of node.0 None) node.2 in
      let path = All-contains (λ number. (name : List ℕ) × (slice_get names number ≡ Some name) × Reaches steps edges start name) nodes node.0 reached.sound node.1 in
      record {
        start = start;
        node = path.0;
        starts = starts;
        reaches = path.2;
        names = sym (step_at node.0 path.0 path.1) ∙ is.0;
        differs = is.1;
      }

  are_waits : (other : ℕ) → WaitsFor steps edges step other → Contains waits other
  are_waits other w =
      let same : w.start ≡ start = cc (w.starts, starts) in
      let has = reached.complete w.node (subst (λ (from : List ℕ). Reaches steps edges from w.node) same w.reaches) in
      let in_found = subst (λ (list : List ℕ). Contains list other) (sym among)
      (member_of (λ (node : ℕ). unless_same step (get_or step_of node None)) nodes has.0 other has.1
      (other_has step other (get_or step_of has.0 None) (step_at has.0 w.node has.2 ∙ w.names) w.differs)) in
      subst (λ (list : List ℕ). Contains list other) (sym once) (Contains-dedup_nat sorted other (Contains-permutation found sorted other moved in_found))

  pub waits_found : AreWaits steps edges step waits
  waits_found = record {
    in_order = subst IsStrictlyIncreasing (sym once) (IsStrictlyIncreasing-dedup sorted ascends);
    sound = waits_are;
    complete = are_waits;
  }
