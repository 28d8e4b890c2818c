-- The search for a circle along a path.
use Rattle.std.proofs.Common.{◌≡◌, ◌⊎◌, ◌<◌, ◌≤◌, ◌+◌, ℕ, List, [], ◌∷◌, ◌++◌, All, Bor, length, take, get_or, map, cond, true, false, Bool, None, Some, refl, sym, ap, ◌∙◌, inl, inr, ⊎_elim, arith, subst}
use Rattle.std.specs.Prelude.{slice_get}
use Rattle.std.specs.List.{AllPairs, Contains, list_any}
use Rattle.std.specs.Str.{bytes_eq}
use Rattle.std.proofs.lemmas.Bool.{cases_lt}
use Rattle.std.proofs.lemmas.List.{get_or_append_left, get_or_push, get_or-map, length-map, length_push, map-append, take-append-le, take_all}
use Rattle.std.proofs.lemmas.List.Elements.{All-contains, All-get_or, All-more, All-nil, All-pop, All-push, All-weaker, Contains-append_left, Contains-push, Contains-push_cases}
use Rattle.std.proofs.lemmas.List.Quantifiers.{all_pairs_push}
use Rattle.std.proofs.lemmas.Option.{get_or_from_slice_get, slice_get-get_or, slice_get_within}
use Rattle.input_graph.specs.declared.circle.Visit.{Visit}
use Rattle.input_graph.specs.Circles.{IsOnCircle, Leads, by_more, by_one}
use Rattle.input_graph.specs.CircleSearch.{AreInOrder, IsSettled}
use Rattle.input_graph.specs.Nodes.{with_node}
use Rattle.input_graph.specs.Targets.{targets_of}
use Rattle.input_graph.proofs.Followed.{followed}
use Rattle.input_graph.proofs.Members.{found_member, joins, no_member, not_found, only_with, same_place}

-- the nodes on a path
abbrev pub nodes_on : List Visit → List (List ℕ)
nodes_on path = map (λ visit. visit.node.now) path

-- a path leads from the node of one visit to that of another
abbrev pub Precedes : (edges : List (List ℕ × List ℕ)) → Visit → Visit → Type 0
Precedes edges visit next = Leads edges visit.node.now next.node.now

-- the targets of the node that were passed are done
abbrev pub HasPassed : (edges : List (List ℕ × List ℕ)) → (done : List (List ℕ)) → Visit → Type 0
HasPassed edges done visit = All (Contains done) (take visit.passed (targets_of edges visit.node.now))

-- each node that was seen is done or on the path
pub record IsSearching (edges : List (List ℕ × List ℕ)) (seen done : List (List ℕ)) (path : List Visit) : Type 0 where
  pub in_order : AreInOrder edges done
  pub passed : All (HasPassed edges done) path
  pub linked : AllPairs (Precedes edges) path
  pub held : All (λ node. Contains done node ⊎ Contains (nodes_on path) node) seen

-- ---- pairs along a list with one more item

module _ {X : Type 0} (R : X → X → Type 0) (xs : List X) (y : X) (pairs : AllPairs R (xs ++ y ∷ [])) where
  longer : length (xs ++ y ∷ []) ≡ length xs + 1
  longer = length_push xs y

  pub pairs_before : AllPairs R xs
  pairs_before i j d less within =
      let long = longer in
      let pair = pairs i j d less (omega (arith, long, within)) in
      subst (λ (v : X). R v (get_or xs j d)) (get_or_append_left xs (y ∷ []) d i (omega (arith, less, within)))
      (subst (λ (w : X). R (get_or (xs ++ y ∷ []) i d) w) (get_or_append_left xs (y ∷ []) d j within) pair)

  pub pairs_last : (k : ℕ) (d : X) → k < length xs → R (get_or xs k d) y
  pairs_last k d within =
      let long = longer in
      let pair = pairs k (length xs) d within (omega (arith, long)) in
      subst (λ (v : X). R v y) (get_or_append_left xs (y ∷ []) d k within)
      (subst (λ (w : X). R (get_or (xs ++ y ∷ []) k d) w) (get_or_push xs y d (length xs) refl) pair)

-- ---- nodes that are done

module _ (edges : List (List ℕ × List ℕ)) (done : List (List ℕ)) (node : List ℕ) (ordered : AreInOrder edges done) (all : All (Contains done) (targets_of edges node)) where
  ordered_if : (b : Bool) → AreInOrder edges (cond b done (done ++ node ∷ []))
  ordered_if true = ordered
  ordered_if false = λ k other at. ⊎_elim
      (λ (lt : k < length done).
      subst (λ (list : List (List ℕ)). All (Contains list) (targets_of edges other)) (sym (take-append-le k done (node ∷ []) (omega (arith, lt))))
      (ordered k other (sym (same_place done (node ∷ []) k lt) ∙ at)))
      (λ (ge : length done ≤ k).
      let inside = slice_get_within (done ++ node ∷ []) k other at in
      let long = length_push done node in
      let same : k ≡ length done = omega (arith, ge, inside, long) in
      let last : get_or (done ++ node ∷ []) k other ≡ node = get_or_push done node other k (sym same) in
      let is : node ≡ other = sym last ∙ get_or_from_slice_get (done ++ node ∷ []) k other other at in
      let front : take k (done ++ node ∷ []) ≡ done = take-append-le k done (node ∷ []) (omega (arith, same)) ∙ take_all k done (omega (arith, same)) in
      subst (λ (list : List (List ℕ)). All (Contains list) (targets_of edges other)) (sym front)
      (subst (λ (n : List ℕ). All (Contains done) (targets_of edges n)) is all))
      (cases_lt k (length done))

  pub ordered_with : AreInOrder edges (with_node done node)
  ordered_with = ordered_if (list_any (bytes_eq node) done)

past_end : (xs : List (List ℕ)) (k : ℕ) → None ≡ slice_get xs k → length xs ≤ k
past_end xs k none = ⊎_elim
    (λ (lt : k < length xs). let some : slice_get xs k ≡ Some (get_or xs k []) = slice_get-get_or xs k [] lt in absurd cc)
    (λ (ge : length xs ≤ k). ge)
    (cases_lt k (length xs))

-- ---- before the first node

pub begins : (edges : List (List ℕ × List ℕ)) (seen done : List (List ℕ)) (start : Bor (List ℕ)) → IsSettled edges seen done
    → IsSearching edges (with_node seen start.now) done (record { node = start; passed = 0 } ∷ [])
begins edges seen done start s = record {
  in_order = s.in_order;
  passed = λ k d within. let only : k ≡ 0 = omega (arith, within) in rw only (All-nil (Contains done));
  linked = λ i j d less within. absurd (omega (arith, less, within));
  held = only_with (λ node. Contains done node ⊎ Contains (start.now ∷ []) node) seen start.now
      (All-weaker (Contains done) (λ node. Contains done node ⊎ Contains (start.now ∷ []) node) (λ node c. inl c) seen s.finished)
      (inr (Contains-push [] start.now));
}

-- ---- after the last node

pub ends : (edges : List (List ℕ × List ℕ)) (seen done : List (List ℕ)) (path : List Visit) → IsSearching edges seen done path → path ≡ [] → IsSettled edges seen done
ends edges seen done path s none = record {
  in_order = s.in_order;
  finished = All-weaker (λ node. Contains done node ⊎ Contains (nodes_on path) node) (Contains done)
      (λ node held. ⊎_elim (λ (c : Contains done node). c)
      (λ (c : Contains (nodes_on path) node). absurd (no_member node (subst (λ (p : List Visit). Contains (nodes_on p) node) none c))) held)
      seen s.held;
}

-- ---- the last visit of a path

module _ (edges : List (List ℕ × List ℕ)) (seen done : List (List ℕ)) (rest : List Visit) (top : Visit) (s : IsSearching edges seen done (rest ++ top ∷ [])) where
  nodes_more : (visit : Visit) → nodes_on (rest ++ visit ∷ []) ≡ nodes_on rest ++ visit.node.now ∷ []
  nodes_more visit = map-append (λ (v : Visit). v.node.now) rest (visit ∷ [])

  all_passed : All (HasPassed edges done) rest × HasPassed edges done top
  all_passed = All-pop (HasPassed edges done) (rest ++ top ∷ []) rest (Some top) refl s.passed

  grown : (new : List (List ℕ)) → ((node : List ℕ) → Contains done node → Contains new node) → (path : List Visit) → All (HasPassed edges done) path → All (HasPassed edges new) path
  grown new more path all = All-weaker (HasPassed edges done) (HasPassed edges new)
      (λ visit passed. All-weaker (Contains done) (Contains new) more (take visit.passed (targets_of edges visit.node.now)) passed) path all

  -- all edges of the last node are passed
  pub is_done : None ≡ slice_get (targets_of edges top.node.now) top.passed → IsSearching edges seen (with_node done top.node.now) rest
  is_done none =
      let j = joins done top.node.now in
      let targets = targets_of edges top.node.now in
      record {
        in_order = ordered_with edges done top.node.now s.in_order
            (subst (All (Contains done)) (take_all top.passed targets (past_end targets top.passed none)) all_passed.1);
        passed = grown (with_node done top.node.now) j.keeps rest all_passed.0;
        linked = pairs_before (Precedes edges) rest top s.linked;
        held = All-weaker (λ node. Contains done node ⊎ Contains (nodes_on (rest ++ top ∷ [])) node) (λ node. Contains (with_node done top.node.now) node ⊎ Contains (nodes_on rest) node)
            (λ node held. ⊎_elim
            (λ (c : Contains done node). inl (j.keeps node c))
            (λ (c : Contains (nodes_on (rest ++ top ∷ [])) node). ⊎_elim
            (λ (more : Contains (nodes_on rest) node). inr more)
            (λ (same : top.node.now ≡ node). inl (subst (Contains (with_node done top.node.now)) same j.has))
            (Contains-push_cases (nodes_on rest) top.node.now node (subst (λ (nodes : List (List ℕ)). Contains nodes node) (nodes_more top) c)))
            held)
            seen s.held;
      }

  module _ (next : List ℕ) (at : Some next ≡ slice_get (targets_of edges top.node.now) top.passed) where
    inside : top.passed < length (targets_of edges top.node.now)
    inside = slice_get_within (targets_of edges top.node.now) top.passed next (sym at)

    there : get_or (targets_of edges top.node.now) top.passed next ≡ next
    there = get_or_from_slice_get (targets_of edges top.node.now) top.passed next next (sym at)

    pub edge : Contains edges (top.node.now, next)
    edge = subst (λ (to : List ℕ). Contains edges (top.node.now, to)) there (All-get_or (λ to. Contains edges (top.node.now, to)) (targets_of edges top.node.now) top.passed next inside (followed edges top.node.now))

    -- the next target is done
    pub passes : Contains done next → IsSearching edges seen done (rest ++ record { node = top.node; passed = top.passed + 1 } ∷ [])
    passes c =
        let moved : Visit = record { node = top.node; passed = top.passed + 1 } in
        let same : nodes_on (rest ++ top ∷ []) ≡ nodes_on (rest ++ moved ∷ []) = nodes_more top ∙ sym (nodes_more moved) in
        record {
          in_order = s.in_order;
          passed = All-push (HasPassed edges done) rest moved all_passed.0
              (All-more (Contains done) (targets_of edges top.node.now) top.passed next inside all_passed.1 (subst (Contains done) (sym there) c));
          linked = all_pairs_push (Precedes edges) rest moved (pairs_before (Precedes edges) rest top s.linked) (pairs_last (Precedes edges) rest top s.linked);
          held = subst (λ (nodes : List (List ℕ)). All (λ node. Contains done node ⊎ Contains nodes node) seen) same s.held;
        }

    -- a path leads to the next target from each node on the path
    leads_on : (k : ℕ) (d : Visit) → k < length (rest ++ top ∷ []) → Leads edges (get_or (rest ++ top ∷ []) k d).node.now next
    leads_on k d within = ⊎_elim
        (λ (lt : k < length rest).
        subst (λ (v : Visit). Leads edges v.node.now next) (sym (get_or_append_left rest (top ∷ []) d k lt)) (by_more top.node.now next (pairs_last (Precedes edges) rest top s.linked k d lt) edge))
        (λ (ge : length rest ≤ k).
        let long = length_push rest top in
        let same : length rest ≡ k = omega (arith, ge, within, long) in
        subst (λ (v : Visit). Leads edges v.node.now next) (sym (get_or_push rest top d k same)) (by_one next edge))
        (cases_lt k (length rest))

    -- the next target is on the path
    pub closes : Contains seen next → (Contains done next → ⊥) → IsOnCircle edges next
    closes c undone = ⊎_elim
        (λ (finished : Contains done next). absurd (undone finished))
        (λ (on : Contains (nodes_on (rest ++ top ∷ [])) next).
        let long : length (nodes_on (rest ++ top ∷ [])) ≡ length (rest ++ top ∷ []) = length-map (rest ++ top ∷ []) (λ (v : Visit). v.node.now) in
        let within : on.0 < length (rest ++ top ∷ []) = omega (arith, on.1, long) in
        let named : get_or (nodes_on (rest ++ top ∷ [])) on.0 next ≡ (get_or (rest ++ top ∷ []) on.0 top).node.now =
        get_or-map (λ (v : Visit). v.node.now) (rest ++ top ∷ []) on.0 top next within in
        subst (λ (from : List ℕ). Leads edges from next) (sym named ∙ on.2) (leads_on on.0 top within))
        (All-contains (λ node. Contains done node ⊎ Contains (nodes_on (rest ++ top ∷ [])) node) seen next s.held c)

  -- the next target is new
  pub enters : (next : Bor (List ℕ)) → Some next.now ≡ slice_get (targets_of edges top.node.now) top.passed
      → IsSearching edges (with_node seen next.now) done ((rest ++ top ∷ []) ++ record { node = next; passed = 0 } ∷ [])
  enters next at =
      let path = rest ++ top ∷ [] in
      let new : Visit = record { node = next; passed = 0 } in
      let more : nodes_on (path ++ new ∷ []) ≡ nodes_on path ++ next.now ∷ [] = map-append (λ (v : Visit). v.node.now) path (new ∷ []) in
      let Held : List (List ℕ) → List ℕ → Type 0 = λ nodes node. Contains done node ⊎ Contains nodes node in
      record {
        in_order = s.in_order;
        passed = All-push (HasPassed edges done) path new s.passed (All-nil (Contains done));
        linked = all_pairs_push (Precedes edges) path new s.linked (λ k d within. leads_on next.now at k d within);
        held = subst (λ (nodes : List (List ℕ)). All (Held nodes) (with_node seen next.now)) (sym more)
            (only_with (Held (nodes_on path ++ next.now ∷ [])) seen next.now
            (All-weaker (Held (nodes_on path)) (Held (nodes_on path ++ next.now ∷ []))
            (λ node held. ⊎_elim (λ (c : Contains done node). inl c) (λ (c : Contains (nodes_on path) node). inr (Contains-append_left (nodes_on path) (next.now ∷ []) node c)) held)
            seen s.held)
            (inr (Contains-push (nodes_on path) next.now)));
      }

-- ---- the search from one node

-- The node was seen, as were those that were seen before.
pub record IsSearchingFrom (edges : List (List ℕ × List ℕ)) (first : List (List ℕ)) (start : List ℕ) (seen done : List (List ℕ)) (path : List Visit) : Type 0 where
  pub searching : IsSearching edges seen done path
  pub begun : Contains seen start
  pub kept : (node : List ℕ) → Contains first node → Contains seen node

pub started : (edges : List (List ℕ × List ℕ)) (first done : List (List ℕ)) (start : Bor (List ℕ)) (seen : List (List ℕ)) (path : List Visit)
    → IsSettled edges first done → seen ≡ with_node first start.now → path ≡ record { node = start; passed = 0 } ∷ [] → IsSearchingFrom edges first start.now seen done path
started edges first done start seen path s joined is =
    let j = joins first start.now in
    subst (λ (list : List (List ℕ)). IsSearchingFrom edges first start.now list done path) (sym joined)
    (subst (IsSearchingFrom edges first start.now (with_node first start.now) done) (sym is)
    (record { searching = begins edges first done start s; begun = j.has; kept = j.keeps }))

module _ (edges : List (List ℕ × List ℕ)) (first : List (List ℕ)) (start : List ℕ) (seen done : List (List ℕ)) (path rest : List Visit) (top : Visit)
    (s : IsSearchingFrom edges first start seen done path) (popped : path ≡ rest ++ top ∷ []) where
  at_top : IsSearching edges seen done (rest ++ top ∷ [])
  at_top = subst (IsSearching edges seen done) popped s.searching

  pub then_done : (new : List (List ℕ)) → None ≡ slice_get (targets_of edges top.node.now) top.passed → new ≡ with_node done top.node.now → IsSearchingFrom edges first start seen new rest
  then_done new none joined =
      subst (λ (list : List (List ℕ)). IsSearchingFrom edges first start seen list rest) (sym joined)
      (record { searching = is_done edges seen done rest top at_top none; begun = s.begun; kept = s.kept })

  pub then_passes : (next : List ℕ) (new : List Visit) → Some next ≡ slice_get (targets_of edges top.node.now) top.passed → list_any (bytes_eq next) done ≡ true
      → new ≡ rest ++ record { node = top.node; passed = top.passed + 1 } ∷ [] → IsSearchingFrom edges first start seen done new
  then_passes next new at finished is =
      subst (IsSearchingFrom edges first start seen done) (sym is)
      (record { searching = passes edges seen done rest top at_top next at (found_member next done finished); begun = s.begun; kept = s.kept })

  pub then_closes : (next : List ℕ) → Some next ≡ slice_get (targets_of edges top.node.now) top.passed → list_any (bytes_eq next) done ≡ false → list_any (bytes_eq next) seen ≡ true
      → IsOnCircle edges next
  then_closes next at undone again = closes edges seen done rest top at_top next at (found_member next seen again) (not_found next done undone)

  pub then_enters : (next : Bor (List ℕ)) (now : List (List ℕ)) (back new : List Visit) → Some next.now ≡ slice_get (targets_of edges top.node.now) top.passed → now ≡ with_node seen next.now
      → back ≡ rest ++ top ∷ [] → new ≡ back ++ record { node = next; passed = 0 } ∷ [] → IsSearchingFrom edges first start now done new
  then_enters next now back new at joined pushed is =
      let j = joins seen next.now in
      let path_is : new ≡ (rest ++ top ∷ []) ++ record { node = next; passed = 0 } ∷ [] = is ∙ ap (λ (p : List Visit). p ++ record { node = next; passed = 0 } ∷ []) pushed in
      subst (λ (list : List (List ℕ)). IsSearchingFrom edges first start list done new) (sym joined)
      (subst (IsSearchingFrom edges first start (with_node seen next.now) done) (sym path_is)
      (record { searching = enters edges seen done rest top at_top next at; begun = j.keeps start s.begun; kept = λ node c. j.keeps node (s.kept node c) }))

  pub edge_to : (next : List ℕ) → Some next ≡ slice_get (targets_of edges top.node.now) top.passed → Contains edges (top.node.now, next)
  edge_to next at = edge edges seen done rest top at_top next at
