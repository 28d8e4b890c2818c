-- The search for the numbers of the nodes that a step reaches.
use Rattle.std.proofs.Common.{◌≡◌, ◌⊎◌, ◌<◌, ◌≤◌, ◌+◌, ℕ, List, [], All, length, get_or, Option, Some, None, is_some, refl, false, true, sym, ap, ◌∙◌, ⊎_elim, arith, subst}
use Rattle.std.specs.Prelude.{slice_get}
use Rattle.std.specs.List.{Contains}
use Rattle.std.specs.declared.alloc.Global.{Global}
use Rattle.std.specs.declared.vec.Vec.{Vec}
use Rattle.std.proofs.lemmas.List.{get_or-map}
use Rattle.input_graph.specs.AllWaits.{lists_in}
use Rattle.std.proofs.lemmas.Bool.{cases_lt}
use Rattle.std.proofs.lemmas.List.Elements.{All-contains, All-nil, All-weaker}
use Rattle.std.proofs.lemmas.Option.{get_or_from_slice_get, slice_get-get_or, slice_get_within}
use Rattle.input_graph.specs.Numbering.{AreNumbersOf, HaveJoined, IsNumbering}
use Rattle.input_graph.specs.Reached.{AreReached}
use Rattle.input_graph.specs.StepNodes.{is_step, step_named}
use Rattle.input_graph.specs.Targets.{targets_of}
use Rattle.input_graph.specs.Waits.{Reaches, by_edge, through}
use Rattle.input_graph.proofs.Followed.{followed, target}

-- The number is that of a node that a path reaches.
abbrev pub HasPath : (steps : List (List ℕ)) → (edges : List (List ℕ × List ℕ)) → (names : List (List ℕ)) → (start : List ℕ) → (number : ℕ) → Type 0
HasPath steps edges names start number = (name : List ℕ) × (slice_get names number ≡ Some name) × Reaches steps edges start name

-- The edges of the first found nodes, that many, were followed.
pub record IsSearched (steps : List (List ℕ)) (edges : List (List ℕ × List ℕ)) (names : List (List ℕ)) (lists : List (List ℕ)) (step_of : List (Option ℕ)) (number : ℕ) (place : ℕ) (found : List ℕ) : Type 0 where
  pub start : List ℕ
  pub named : slice_get names number ≡ Some start
  pub within : place ≤ length found
  pub sound : All (HasPath steps edges names start) found
  pub begun : All (Contains found) (get_or lists number [])
  pub closed : (k node : ℕ) → k < place → slice_get found k ≡ Some node → slice_get step_of node ≡ Some None → All (Contains found) (get_or lists node [])

pub read_at : {X : Type 0} (xs : List X) (k : ℕ) (x : X) → k < length xs → x ≡ get_or xs k x → slice_get xs k ≡ Some x
read_at xs k x within here = slice_get-get_or xs k x within ∙ ap Some (sym here)

pub list_read : (vectors : List (Vec ℕ Global)) (k : ℕ) (vector : Vec ℕ Global) (d : List ℕ) → k < length vectors → vector ≡ get_or vectors k vector → vector.items ≡ get_or (lists_in vectors) k d
list_read vectors k vector d within here =
    ap (λ (v : Vec ℕ Global). v.items) here ∙ sym (get_or-map (λ (v : Vec ℕ Global). v.items) vectors k vector d within)

some_of : (of : Option ℕ) → is_some of ≡ true → of ≡ None → ⊥
some_of None is none = cc
some_of (Some n) is none = cc

not_step : (steps : List (List ℕ)) (name : List ℕ) (of : Option ℕ) → step_named steps name ≡ of → of ≡ None → is_step steps name ≡ false
not_step steps name of is none = ap is_some (is ∙ none)

no_step : (of : Option ℕ) → is_some of ≡ false → of ≡ None
no_step None is = refl
no_step (Some n) is = cc

module _ (steps : List (List ℕ)) (edges : List (List ℕ × List ℕ)) (names : List (List ℕ)) (lists : List (List ℕ)) (step_of : List (Option ℕ)) (starts : List ℕ)
    (is : IsNumbering steps edges names lists step_of starts) where
  list_at : (number : ℕ) (name : List ℕ) → slice_get names number ≡ Some name → AreNumbersOf names (get_or lists number []) (targets_of edges name)
  list_at number name at =
      let has = is.leads number name (slice_get_within names number name at) at in
      subst (λ (numbers : List ℕ). AreNumbersOf names numbers (targets_of edges name)) (sym (get_or_from_slice_get lists number has.0 [] has.1)) has.2

  -- the numbers of targets are those of nodes
  pub list_within : (number : ℕ) → number < length names → All (λ n. n < length names) (get_or lists number [])
  list_within number within =
      let name = get_or names number [] in
      All-weaker (λ n. (name' : List ℕ) × (slice_get names n ≡ Some name') × Contains (targets_of edges name) name') (λ n. n < length names)
      (λ n has. slice_get_within names n has.0 has.1) (get_or lists number []) (list_at number name (slice_get-get_or names number [] within)).each

  pub list_there : (number : ℕ) → number < length names → number < length lists
  list_there number within =
      let name = get_or names number [] in
      let has = is.leads number name within (slice_get-get_or names number [] within) in
      slice_get_within lists number has.0 has.1

  pub step_there : (number : ℕ) → number < length names → number < length step_of
  step_there number within =
      let name = get_or names number [] in
      slice_get_within step_of number (step_named steps name) (is.knows number name within (slice_get-get_or names number [] within))

  -- a path leads to each target
  paths : (start : List ℕ) (from : ℕ) (name : List ℕ) → slice_get names from ≡ Some name → ((to : List ℕ) → Contains edges (name, to) → Reaches steps edges start to)
      → All (HasPath steps edges names start) (get_or lists from [])
  paths start from name at goes =
      All-weaker (λ n. (to : List ℕ) × (slice_get names n ≡ Some to) × Contains (targets_of edges name) to) (HasPath steps edges names start)
      (λ n has. (has.0, has.1, goes has.0 (All-contains (λ t. Contains edges (name, t)) (targets_of edges name) has.0 (followed edges name) has.2)))
      (get_or lists from []) (list_at from name at).each

  grown : (start : List ℕ) (found more new : List ℕ) → All (HasPath steps edges names start) found → All (HasPath steps edges names start) more → HaveJoined found more new
      → All (HasPath steps edges names start) new
  grown start found more new old added joined =
      All-weaker (λ number. Contains found number ⊎ Contains more number) (HasPath steps edges names start)
      (λ n c. ⊎_elim
      (λ (in_found : Contains found n). All-contains (HasPath steps edges names start) found n old in_found)
      (λ (in_more : Contains more n). All-contains (HasPath steps edges names start) more n added in_more) c)
      new joined.only

  -- before the first node, when the targets of the start were added
  pub begins : (number : ℕ) (found : List ℕ) → number < length names → HaveJoined [] (get_or lists number []) found → IsSearched steps edges names lists step_of number 0 found
  begins number found within joined =
      let start = get_or names number [] in
      let named : slice_get names number ≡ Some start = slice_get-get_or names number [] within in
      record {
        start = start;
        named = named;
        within = omega arith;
        sound = grown start [] (get_or lists number []) found (All-nil (HasPath steps edges names start)) (paths start number start named (λ to c. by_edge to c)) joined;
        begun = joined.has;
        closed = λ k node before. absurd (omega (arith, before));
      }

  module _ (number place : ℕ) (found : List ℕ) (node : ℕ) (s : IsSearched steps edges names lists step_of number place found) (here : slice_get found place ≡ Some node) where
    path_here : HasPath steps edges names s.start node
    path_here = subst (HasPath steps edges names s.start) (get_or_from_slice_get found place node node here) (s.sound place node (slice_get_within found place node here))

    pub node_within : node < length names
    node_within = slice_get_within names node path_here.0 path_here.1

    -- a node that is a step passes nothing on
    pub goes_by_step : (of : Option ℕ) → slice_get step_of node ≡ Some of → is_some of ≡ true → IsSearched steps edges names lists step_of number (place + 1) found
    goes_by_step of at some = record {
      start = s.start;
      named = s.named;
      within = omega (arith, slice_get_within found place node here);
      sound = s.sound;
      begun = s.begun;
      closed = λ k other before at_k none. ⊎_elim
          (λ (lt : k < place). s.closed k other lt at_k none)
          (λ (ge : place ≤ k).
          let same : k ≡ place = omega (arith, before, ge) in
          let it : node ≡ other = cc (here, at_k, same) in
          let is_none_of : of ≡ None = cc (at, none, it) in
          absurd (some_of of some is_none_of))
          (cases_lt k place);
    }

    -- another node passes on
    pub goes_through : (of : Option ℕ) (new : List ℕ) → slice_get step_of node ≡ Some of → is_some of ≡ false → HaveJoined found (get_or lists node []) new
        → IsSearched steps edges names lists step_of number (place + 1) new
    goes_through of new at none joined =
        let more = get_or lists node [] in
        let inside = slice_get_within found place node here in
        let path = path_here in
        let knows : slice_get step_of node ≡ Some (step_named steps path.0) = is.knows node path.0 node_within path.1 in
        let same_of : step_named steps path.0 ≡ of = cc (knows, at) in
        let plain : is_step steps path.0 ≡ false = not_step steps path.0 of same_of (no_step of none) in
        let Has : (list : List ℕ) → All (Contains found) list → All (Contains new) list = λ list all. All-weaker (Contains found) (Contains new) (λ n c. joined.keeps n c) list all in
        record {
          start = s.start;
          named = s.named;
          within = omega (arith, inside, joined.grows);
          sound = grown s.start found more new s.sound (paths s.start node path.0 path.1 (λ to c. through path.0 to path.2 plain c)) joined;
          begun = Has (get_or lists number []) s.begun;
          closed = λ k other before at_k plain_k.
              let inner : k < length found = omega (arith, before, inside) in
              let was : slice_get found k ≡ Some other = sym (joined.stays k inner) ∙ at_k in
              ⊎_elim
              (λ (lt : k < place). Has (get_or lists other []) (s.closed k other lt was plain_k))
              (λ (ge : place ≤ k).
              let same : k ≡ place = omega (arith, before, ge) in
              let it : node ≡ other = cc (here, was, same) in
              subst (λ (n : ℕ). All (Contains new) (get_or lists n [])) it joined.has)
              (cases_lt k place);
        }

  -- after the last node
  finds : (number place : ℕ) (found : List ℕ) (s : IsSearched steps edges names lists step_of number place found) → length found ≤ place
      → (node : List ℕ) → Reaches steps edges s.start node → (n : ℕ) × Contains found n × (slice_get names n ≡ Some node)
  finds number place found s all to (by_edge _ edge) =
      let first = list_at number s.start s.named in
      let has = All-contains (λ node. (n : ℕ) × Contains (get_or lists number []) n × (slice_get names n ≡ Some node)) (targets_of edges s.start) to first.all (target edges s.start to edge) in
      (has.0, All-contains (Contains found) (get_or lists number []) has.0 s.begun has.1, has.2)
  finds number place found s all to (through node _ path plain edge) =
      let had = finds number place found s all node path in
      let c = had.1 in
      let n = had.0 in
      let here : slice_get found c.0 ≡ Some n = slice_get-get_or found c.0 n c.1 ∙ ap Some c.2 in
      let knows : slice_get step_of n ≡ Some (step_named steps node) = is.knows n node (slice_get_within names n node had.2) had.2 in
      let none : slice_get step_of n ≡ Some None = knows ∙ ap Some (no_step (step_named steps node) plain) in
      let has = All-contains (λ node. (n' : ℕ) × Contains (get_or lists n []) n' × (slice_get names n' ≡ Some node)) (targets_of edges node) to (list_at n node had.2).all (target edges node to edge) in
      (has.0, All-contains (Contains found) (get_or lists n []) has.0 (s.closed c.0 n (omega (arith, c.1, all)) here none) has.1, has.2)

  pub finds_all : (number place : ℕ) (found : List ℕ) → IsSearched steps edges names lists step_of number place found → length found ≤ place
      → (start : List ℕ) → slice_get names number ≡ Some start → AreReached steps edges names start found
  finds_all number place found s all start at =
      let same : s.start ≡ start = cc (s.named, at) in
      subst (λ (from : List ℕ). AreReached steps edges names from found) same (record { sound = s.sound; complete = finds number place found s all })

pub steps_there : (steps : List (List ℕ)) (edges : List (List ℕ × List ℕ)) (names : List (List ℕ)) (lists : List (List ℕ)) (step_of : List (Option ℕ)) (starts : List ℕ)
    → IsNumbering steps edges names lists step_of starts → (start : List ℕ) (found : List ℕ) → All (HasPath steps edges names start) found → All (λ number. number < length step_of) found
steps_there steps edges names lists step_of starts is start found sound =
    All-weaker (HasPath steps edges names start) (λ number. number < length step_of)
    (λ n path. step_there steps edges names lists step_of starts is n (slice_get_within names n path.0 path.1)) found sound
