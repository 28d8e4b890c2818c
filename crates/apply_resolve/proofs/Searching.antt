-- The search for steps that could begin: what holds of the path and of the states.
use Rattle.std.proofs.Common.{◌≡◌, ℕ, suc, ◌+◌, ◌-◌, ◌*◌, ◌<◌, ◌≤◌, Bool, true, false, List, [], ◌∷◌, ◌++◌, length, map, set, take, get_or, Some, None, refl, sym, ap, subst, ◌∙◌, arith, ◌⊎◌, ⊎_elim}
use Rattle.std.specs.Prelude.{◌&&◌, ◌||◌, slice_get, unwrap_or}
use Rattle.std.specs.List.{AllByRecursion, count_by, list_all, list_any}
use Rattle.std.proofs.lemmas.Bool.{cases_Bool}
use Rattle.std.proofs.lemmas.List.{length-set, map-append, take_all, take_more}
use Rattle.std.proofs.lemmas.List.Folds.{list_all-append, list_any-append}
use Rattle.std.proofs.lemmas.List.Sums.{count_by-le-length}
use Rattle.std.proofs.lemmas.Option.{get_or_from_slice_get, slice_get_cases, slice_get_within}
use Rattle.apply_model.specs.declared.script.wait.Wait.{Wait}
use Rattle.apply_model.specs.Script.OutcomeMap.{OutcomeMap}
use Rattle.apply_model.specs.Script.Waits.{could_begin, stated_waits}
use Rattle.apply_resolve.specs.declared.reachability.Visit.{Visit}
use Rattle.apply_resolve.specs.declared.visit_state.VisitState.{VisitState}
use Rattle.apply_resolve.specs.declared.visit_state.VisitState.TheVariants.{Unseen, OnPath, Begins, Unreachable}
use Rattle.apply_resolve.specs.VisitStates.{AreSettled, AreReachable, AreUnreachable, is_known, index_of, state_of, with_unreachable}
use Rattle.apply_resolve.specs.Placed.{AreAllPlaced, IsPlaced}
use Rattle.apply_resolve.proofs.Marked.{counted_after, going_after, in_states, index_same, is_going, is_step_of, length-with_unreachable, state_after, marked_among, more_known, one_where, path_is_not_unreachable, same_known, set_going, unreachable_before}
use Rattle.apply_resolve.proofs.Rounds.{IsChain, begins_at, chain_front, chain_more, is_step, none_of_circle, none_of_unreachable, one_round_more, same_step, steps_equal, within_more}

-- ---- lists

all_front : {X : Type 0} (P : X → Type 0) (front : List X) (last : X) → AllByRecursion P (front ++ last ∷ []) → AllByRecursion P front
all_front P [] last all = tt
all_front P (x ∷ front) last all = (all.0, all_front P front last all.1)

all_last : {X : Type 0} (P : X → Type 0) (front : List X) (last : X) → AllByRecursion P (front ++ last ∷ []) → P last
all_last P [] last all = all.0
all_last P (x ∷ front) last all = all_last P front last all.1

all_push : {X : Type 0} (P : X → Type 0) (front : List X) (last : X) → AllByRecursion P front → P last → AllByRecursion P (front ++ last ∷ [])
all_push P [] last all holds = (holds, tt)
all_push P (x ∷ front) last all holds = (all.0, all_push P front last all.1 holds)

all_also : {X : Type 0} (P Q : X → Type 0) → ((x : X) → P x → Q x) → (xs : List X) → AllByRecursion P xs → AllByRecursion Q xs
all_also P Q also [] all = tt
all_also P Q also (x ∷ xs) all = (also x all.0, all_also P Q also xs all.1)

-- ---- the path

abbrev pub steps_on : List Visit → List Wait
steps_on path = map (λ visit. visit.step) path

-- those that were passed have begun within so many rounds
abbrev HasPassed : OutcomeMap → ℕ → Visit → Type 0
HasPassed script rounds visit = list_all (begins_at script rounds) (take visit.passed (stated_waits script visit.step.change visit.step.step)) ≡ true

pub record IsSearching (script : OutcomeMap) (root : Wait) (states : List VisitState) (path : List Visit) : Type 0 where
  pub long : length states ≡ 2 * length script
  pub begin : AreReachable script states
  pub unreachable : AreUnreachable script states
  pub on_path : (wait : Wait) → IsPlaced (length script) wait → state_of states wait ≡ OnPath → list_any (is_step wait) (steps_on path) ≡ true
  pub chain : IsChain script (steps_on path)
  pub passed : AllByRecursion (HasPassed script (count_by is_known states)) path
  pub placed : AllByRecursion (λ visit. IsPlaced (length script) visit.step) path
  pub first : unwrap_or (slice_get (steps_on path) 0) root ≡ root
  pub going : AllByRecursion (λ visit. is_going (state_of states visit.step) ≡ true) path
  pub root_going : is_going (state_of states root) ≡ true

passed_also : (script : OutcomeMap) (rounds more : ℕ) → rounds ≤ more → (path : List Visit) → AllByRecursion (HasPassed script rounds) path → AllByRecursion (HasPassed script more) path
passed_also script rounds more few path all =
    all_also (HasPassed script rounds) (HasPassed script more)
    (λ visit passed. all_begin (take visit.passed (stated_waits script visit.step.change visit.step.step)) passed) path all
  where
    split : (a b : Bool) → (a && b) ≡ true → (a ≡ true) × (b ≡ true)
    split true b e = (refl, e)
    split false b e = absurd cc

    all_begin : (waits : List Wait) → list_all (begins_at script rounds) waits ≡ true → list_all (begins_at script more) waits ≡ true
    all_begin [] e = refl
    all_begin (wait ∷ waits) e =
        let both = split (begins_at script rounds wait) (list_all (begins_at script rounds) waits) e in
        rw (within_more script wait rounds more few both.0, all_begin waits both.1) refl

steps-push : (path : List Visit) (visit : Visit) → steps_on (path ++ visit ∷ []) ≡ steps_on path ++ visit.step ∷ []
steps-push path visit = map-append (λ (v : Visit). v.step) path (visit ∷ [])

-- the first step of a path
first_front : (front : List Wait) (last root : Wait) → unwrap_or (slice_get (front ++ last ∷ []) 0) root ≡ root → unwrap_or (slice_get front 0) root ≡ root
first_front [] last root first = refl
first_front (wait ∷ front) last root first = first

first_more : (front : List Wait) (last next root : Wait) → unwrap_or (slice_get (front ++ last ∷ []) 0) root ≡ root → unwrap_or (slice_get ((front ++ last ∷ []) ++ next ∷ []) 0) root ≡ root
first_more [] last next root first = first
first_more (wait ∷ front) last next root first = first

all_going_after : (states : List VisitState) (wait : Wait) (state : VisitState) → index_of wait < length states → is_going state ≡ true → (path : List Visit) → AllByRecursion (λ visit. is_going (state_of states visit.step) ≡ true) path
    → AllByRecursion (λ visit. is_going (state_of (set states (index_of wait) state) visit.step) ≡ true) path
all_going_after states wait state below goes path all =
    all_also (λ (visit : Visit). is_going (state_of states visit.step) ≡ true) (λ (visit : Visit). is_going (state_of (set states (index_of wait) state) visit.step) ≡ true)
    (λ visit was. going_after states wait visit.step state below goes was) path all

-- ---- a search begins

on_path_set : (script : OutcomeMap) (states : List VisitState) (wait : Wait) → index_of wait < length states → is_known (state_of states wait) ≡ false → AreReachable script states → AreReachable script (set states (index_of wait) OnPath)
on_path_set script states wait below not begin other placed marked = ⊎_elim
    (λ (same : (index_of other ≡ index_of wait) × (state_of (set states (index_of wait) OnPath) other ≡ OnPath)). let both : OnPath ≡ Begins = sym same.1 ∙ marked in absurd cc)
    (λ (apart : (index_of other ≡ index_of wait → ⊥) × (state_of (set states (index_of wait) OnPath) other ≡ state_of states other)).
    rw (same_known states wait below not) (begin other placed (sym apart.1 ∙ marked)))
    (state_after states wait other OnPath below)

module _ (script : OutcomeMap) (root : Wait) (placed : IsPlaced (length script) root) where
  -- before anything is known of the step
  pub starts : (states : List VisitState) (path : List Visit) → AreSettled script states → is_known (state_of states root) ≡ false → path ≡ record { step = root; passed = 0 } ∷ [] → IsSearching script root (set states (index_of root) OnPath) path
  starts states path settled not is =
      let below = in_states (length script) states root settled.long placed in
      subst (IsSearching script root (set states (index_of root) OnPath)) (sym is)
      (record {
        long = length-set states (index_of root) OnPath ∙ settled.long;
        begin = on_path_set script states root below not settled.begin;
        unreachable = unreachable_before script states root OnPath below path_is_not_unreachable settled.unreachable;
        on_path = λ wait there marked. ⊎_elim
            (λ (same : (index_of wait ≡ index_of root) × (state_of (set states (index_of root) OnPath) wait ≡ OnPath)). rw (is_step_of (length script) wait root there placed same.0) refl)
            (λ (apart : (index_of wait ≡ index_of root → ⊥) × (state_of (set states (index_of root) OnPath) wait ≡ state_of states wait)). absurd (settled.settled wait there (sym apart.1 ∙ marked)))
            (state_after states root wait OnPath below);
        chain = tt;
        passed = (refl, tt);
        placed = (placed, tt);
        first = refl;
        going = (set_going states root below, tt);
        root_going = set_going states root below;
      })

  -- the states decide that the step could begin
  pub already : (states : List VisitState) → AreSettled script states → state_of states root ≡ Begins → true ≡ could_begin script root.change root.step
  already states settled begun =
      sym (within_more script root (count_by is_known states) (2 * length script) (let most = count_by-le-length is_known states in let long = settled.long in omega arith) (settled.begin root placed begun))

  -- or that it could never
  pub already_unreachable : (states : List VisitState) → AreSettled script states → state_of states root ≡ Unreachable → false ≡ could_begin script root.change root.step
  already_unreachable states settled unreachable = sym (settled.unreachable root placed unreachable)

  -- a search ends with an empty path
  module _ (states : List VisitState) (path : List Visit) (has : IsSearching script root states path) (none : path ≡ []) where
    is_empty : IsSearching script root states []
    is_empty = subst (IsSearching script root states) none has

    nowhere : (wait : Wait) → IsPlaced (length script) wait → state_of states wait ≡ OnPath → ⊥
    nowhere wait there marked = let among : false ≡ true = is_empty.on_path wait there marked in absurd cc

    pub settled_then : AreSettled script states
    settled_then = record { long = is_empty.long; begin = is_empty.begin; unreachable = is_empty.unreachable; settled = nowhere }

    root_is : (state : VisitState) → state_of states root ≡ state → state ≡ Begins
    root_is Unseen is = let both : false ≡ true = sym (ap is_going is) ∙ is_empty.root_going in absurd cc
    root_is OnPath is = absurd (nowhere root placed is)
    root_is Begins is = refl
    root_is Unreachable is = let both : false ≡ true = sym (ap is_going is) ∙ is_empty.root_going in absurd cc

    pub begins_then : true ≡ could_begin script root.change root.step
    begins_then = already states settled_then (root_is (state_of states root) refl)

-- ---- a step of a search

steps_placed : (n : ℕ) (path : List Visit) → AllByRecursion (λ visit. IsPlaced n visit.step) path → AllByRecursion (IsPlaced n) (steps_on path)
steps_placed n [] all = tt
steps_placed n (visit ∷ path) all = (all.0, steps_placed n path all.1)

-- the last item of a list may stand in front
swapped : {X : Type 0} (p : X → Bool) (front : List X) (last : X) → list_any p (front ++ last ∷ []) ≡ list_any p (last ∷ front)
swapped p front last = list_any-append p front (last ∷ []) ∙ either (list_any p front) (p last)
  where
    either : (a b : Bool) → (a || (b || false)) ≡ (b || a)
    either true true = refl
    either true false = refl
    either false true = refl
    either false false = refl

module _ (script : OutcomeMap) (root : Wait) (states : List VisitState) (path front : List Visit) (visit : Visit) (searching : IsSearching script root states path) (is : path ≡ front ++ visit ∷ []) (in_plan : IsPlaced (length script) root) where
  has : IsSearching script root states (front ++ visit ∷ [])
  has = subst (IsSearching script root states) is searching

  abbrev rounds : ℕ
  rounds = count_by is_known states

  pub here : IsPlaced (length script) visit.step
  here = all_last (λ (v : Visit). IsPlaced (length script) v.step) front visit has.placed

  pub below : index_of visit.step < length states
  below = in_states (length script) states visit.step has.long here

  goes_here : is_going (state_of states visit.step) ≡ true
  goes_here = all_last (λ (v : Visit). is_going (state_of states v.step) ≡ true) front visit has.going

  abbrev waits : List Wait
  waits = stated_waits script visit.step.change visit.step.step

  chain_here : IsChain script (steps_on front ++ visit.step ∷ [])
  chain_here = subst (IsChain script) (steps-push front visit) has.chain

  first_here : unwrap_or (slice_get (steps_on front ++ visit.step ∷ []) 0) root ≡ root
  first_here = subst (λ (steps : List Wait). unwrap_or (slice_get steps 0) root ≡ root) (steps-push front visit) has.first

  -- ---- all that it waits for was passed

  pub all_passed : slice_get (stated_waits script visit.step.change visit.step.step) visit.passed ≡ None → begins_at script (suc (count_by is_known states)) visit.step ≡ true
  all_passed none =
      let past : length waits ≤ visit.passed = ⊎_elim
      (λ (some : (x : Wait) × (visit.passed < length waits) × (slice_get waits visit.passed ≡ Some x) × (get_or waits visit.passed x ≡ x)). let both : None ≡ Some some.0 = sym none ∙ some.2 in absurd cc)
      (λ (over : (length waits ≤ visit.passed) × (slice_get waits visit.passed ≡ None)). over.0)
      (slice_get_cases waits visit.passed).1 in
      one_round_more script rounds visit.step
      (ap (list_all (begins_at script rounds)) (sym (take_all visit.passed waits past)) ∙ all_last (HasPassed script rounds) front visit has.passed)

  -- the step begins now, within as many rounds as there are decided steps
  begun_now : begins_at script (suc rounds) visit.step ≡ true → (rounds ≤ count_by is_known (set states (index_of visit.step) Begins)) × (begins_at script (count_by is_known (set states (index_of visit.step) Begins)) visit.step ≡ true)
  begun_now next = of (state_of states visit.step) refl
    where
      of : (state : VisitState) → state_of states visit.step ≡ state → (rounds ≤ count_by is_known (set states (index_of visit.step) Begins)) × (begins_at script (count_by is_known (set states (index_of visit.step) Begins)) visit.step ≡ true)
      of Begins marked =
          let counted = counted_after is_known states visit.step Begins below in
          let one : one_where (is_known (state_of states visit.step)) ≡ 1 = ap (λ (m : VisitState). one_where (is_known m)) marked in
          let same : count_by is_known (set states (index_of visit.step) Begins) ≡ rounds = omega (arith, counted, one) in
          (omega (arith, same), rw same (has.begin visit.step here marked))
      of OnPath marked =
          let counted = counted_after is_known states visit.step Begins below in
          let none : one_where (is_known (state_of states visit.step)) ≡ 0 = ap (λ (m : VisitState). one_where (is_known m)) marked in
          let more : count_by is_known (set states (index_of visit.step) Begins) ≡ suc rounds = omega (arith, counted, none) in
          (omega (arith, more), rw more next)
      of Unreachable marked =
          let both : false ≡ true = sym (ap is_going marked) ∙ goes_here in absurd cc
      of Unseen marked =
          let counted = counted_after is_known states visit.step Begins below in
          let none : one_where (is_known (state_of states visit.step)) ≡ 0 = ap (λ (m : VisitState). one_where (is_known m)) marked in
          let more : count_by is_known (set states (index_of visit.step) Begins) ≡ suc rounds = omega (arith, counted, none) in
          (omega (arith, more), rw more next)

  pub begins_now : slice_get (stated_waits script visit.step.change visit.step.step) visit.passed ≡ None → IsSearching script root (set states (index_of visit.step) Begins) front
  begins_now none =
      let now = begun_now (all_passed none) in
      let more = count_by is_known (set states (index_of visit.step) Begins) in
      record {
        long = length-set states (index_of visit.step) Begins ∙ has.long;
        begin = λ wait there marked. ⊎_elim
            (λ (same : (index_of wait ≡ index_of visit.step) × (state_of (set states (index_of visit.step) Begins) wait ≡ Begins)).
            let equal = index_same (length script) wait visit.step there here same.0 in rw (equal.0, equal.1) now.1)
            (λ (apart : (index_of wait ≡ index_of visit.step → ⊥) × (state_of (set states (index_of visit.step) Begins) wait ≡ state_of states wait)).
            within_more script wait rounds more now.0 (has.begin wait there (sym apart.1 ∙ marked)))
            (state_after states visit.step wait Begins below);
        unreachable = unreachable_before script states visit.step Begins below (λ e. absurd cc) has.unreachable;
        on_path = λ wait there marked. ⊎_elim
            (λ (same : (index_of wait ≡ index_of visit.step) × (state_of (set states (index_of visit.step) Begins) wait ≡ Begins)). let both : Begins ≡ OnPath = sym same.1 ∙ marked in absurd cc)
            (λ (apart : (index_of wait ≡ index_of visit.step → ⊥) × (state_of (set states (index_of visit.step) Begins) wait ≡ state_of states wait)).
            among_front wait there apart.0 (has.on_path wait there (sym apart.1 ∙ marked)))
            (state_after states visit.step wait Begins below);
        chain = chain_front script (steps_on front) visit.step chain_here;
        passed = passed_also script rounds more now.0 front (all_front (HasPassed script rounds) front visit has.passed);
        placed = all_front (λ (v : Visit). IsPlaced (length script) v.step) front visit has.placed;
        first = first_front (steps_on front) visit.step root first_here;
        going = all_going_after states visit.step Begins below refl front (all_front (λ (v : Visit). is_going (state_of states v.step) ≡ true) front visit has.going);
        root_going = going_after states visit.step root Begins below refl has.root_going;
      }
    where
      among_front : (wait : Wait) → IsPlaced (length script) wait → (index_of wait ≡ index_of visit.step → ⊥) → list_any (is_step wait) (steps_on (front ++ visit ∷ [])) ≡ true → list_any (is_step wait) (steps_on front) ≡ true
      among_front wait there apart among = either (list_any (is_step wait) (steps_on front)) (is_step wait visit.step) refl
          (sym (ap (list_any (is_step wait)) (steps-push front visit) ∙ list_any-append (is_step wait) (steps_on front) (visit.step ∷ [])) ∙ among)
        where
          either : (a b : Bool) → is_step wait visit.step ≡ b → (a || (b || false)) ≡ true → a ≡ true
          either true b same e = refl
          either false true same e = let equal = steps_equal wait visit.step same in absurd (apart (let change = equal.0 in let step = equal.1 in omega arith))
          either false false same e = absurd cc

  -- ---- one more was passed

  module _ (next : Wait) (at : slice_get (stated_waits script visit.step.change visit.step.step) visit.passed ≡ Some next) (all_placed : AreAllPlaced script) where
    pub next_placed : IsPlaced (length script) next
    next_placed = subst (IsPlaced (length script)) (get_or_from_slice_get waits visit.passed next next at) (all_placed visit.step here visit.passed next (slice_get_within waits visit.passed next at))

    pub next_below : index_of next < length states
    next_below = in_states (length script) states next has.long next_placed

    pub passes : state_of states next ≡ Begins → (grown : List Visit) → grown ≡ front ++ record { step = visit.step; passed = visit.passed + 1 } ∷ [] → IsSearching script root states grown
    passes marked grown grown_is =
        let later : Visit = record { step = visit.step; passed = visit.passed + 1 } in
        let same : steps_on (front ++ later ∷ []) ≡ steps_on (front ++ visit ∷ []) = steps-push front later ∙ sym (steps-push front visit) in
        let passed_one : HasPassed script rounds later =
        ap (list_all (begins_at script rounds)) (take_more waits visit.passed next (slice_get_within waits visit.passed next at) ∙ ap (λ (w : Wait). take visit.passed waits ++ w ∷ []) (get_or_from_slice_get waits visit.passed next next at))
        ∙ list_all-append (begins_at script rounds) (take visit.passed waits) (next ∷ [])
        ∙ rw (all_last (HasPassed script rounds) front visit has.passed, has.begin next next_placed marked) refl in
        subst (IsSearching script root states) (sym grown_is)
        (record {
          long = has.long;
          begin = has.begin;
          unreachable = has.unreachable;
          on_path = λ wait there on. ap (list_any (is_step wait)) same ∙ has.on_path wait there on;
          chain = subst (IsChain script) (sym same) has.chain;
          passed = all_push (HasPassed script rounds) front later (all_front (HasPassed script rounds) front visit has.passed) passed_one;
          placed = all_push (λ (v : Visit). IsPlaced (length script) v.step) front later (all_front (λ (v : Visit). IsPlaced (length script) v.step) front visit has.placed) here;
          first = subst (λ (steps : List Wait). unwrap_or (slice_get steps 0) root ≡ root) (sym same) has.first;
          going = all_push (λ (v : Visit). is_going (state_of states v.step) ≡ true) front later (all_front (λ (v : Visit). is_going (state_of states v.step) ≡ true) front visit has.going) goes_here;
          root_going = has.root_going;
        })

    -- ---- a step that was not seen before is put on the path

    pub goes_on : state_of states next ≡ Unseen → (grown : List Visit) → grown ≡ (front ++ visit ∷ []) ++ record { step = next; passed = 0 } ∷ [] → IsSearching script root (set states (index_of next) OnPath) grown
    goes_on unseen grown grown_is =
        let top : Visit = record { step = next; passed = 0 } in
        let whole = front ++ visit ∷ [] in
        let not : is_known (state_of states next) ≡ false = ap is_known unseen in
        let same = same_known states next next_below not in
        subst (IsSearching script root (set states (index_of next) OnPath)) (sym grown_is)
        (record {
          long = length-set states (index_of next) OnPath ∙ has.long;
          begin = on_path_set script states next next_below not has.begin;
          unreachable = unreachable_before script states next OnPath next_below path_is_not_unreachable has.unreachable;
          on_path = λ wait there on.
              ap (list_any (is_step wait)) (steps-push whole top) ∙ list_any-append (is_step wait) (steps_on whole) (next ∷ [])
              ∙ ⊎_elim
              (λ (equal : (index_of wait ≡ index_of next) × (state_of (set states (index_of next) OnPath) wait ≡ OnPath)). rw (is_step_of (length script) wait next there next_placed equal.0) (or_true (list_any (is_step wait) (steps_on whole))))
              (λ (apart : (index_of wait ≡ index_of next → ⊥) × (state_of (set states (index_of next) OnPath) wait ≡ state_of states wait)). rw (has.on_path wait there (sym apart.1 ∙ on)) refl)
              (state_after states next wait OnPath next_below);
          chain = subst (IsChain script) (sym (steps-push whole top ∙ ap (λ (steps : List Wait). steps ++ next ∷ []) (steps-push front visit))) (chain_more script (steps_on front) visit.step next chain_here (visit.passed, at));
          passed = subst (λ (r : ℕ). AllByRecursion (HasPassed script r) (whole ++ top ∷ [])) (sym same) (all_push (HasPassed script rounds) whole top has.passed refl);
          placed = all_push (λ (v : Visit). IsPlaced (length script) v.step) whole top has.placed next_placed;
          first = subst (λ (steps : List Wait). unwrap_or (slice_get steps 0) root ≡ root) (sym (steps-push whole top ∙ ap (λ (steps : List Wait). steps ++ next ∷ []) (steps-push front visit))) (first_more (steps_on front) visit.step next root first_here);
          going =
              all_push (λ (v : Visit). is_going (state_of (set states (index_of next) OnPath) v.step) ≡ true) whole top
              (all_going_after states next OnPath next_below refl whole has.going) (set_going states next next_below);
          root_going = going_after states next root OnPath next_below refl has.root_going;
        })
      where
        or_true : (b : Bool) → (b || (true || false)) ≡ true
        or_true true = refl
        or_true false = refl

    -- ---- the path comes back to itself, or leads to a step that could never begin

    none_begins : ((OnPath ≡ state_of states next) ⊎ (Unreachable ≡ state_of states next)) → (one : Wait) → list_any (is_step one) (steps_on front ++ visit.step ∷ []) ≡ true → could_begin script one.change one.step ≡ false
    none_begins ends one here = ⊎_elim
        (λ (on : OnPath ≡ state_of states next).
        let among : list_any (is_step next) (steps_on front ++ visit.step ∷ []) ≡ true = sym (ap (list_any (is_step next)) (steps-push front visit)) ∙ has.on_path next next_placed (sym on) in
        none_of_circle script (2 * length script) (steps_on front) visit.step next one chain_here (visit.passed, at) among here)
        (λ (unreachable : Unreachable ≡ state_of states next).
        none_of_unreachable script (2 * length script) (steps_on front) visit.step next one chain_here (visit.passed, at) (has.unreachable next next_placed (sym unreachable)) here)
        ends

    -- all steps on the path have that state afterwards
    pub settled_with_unreachable : ((OnPath ≡ state_of states next) ⊎ (Unreachable ≡ state_of states next)) → AreSettled script (with_unreachable (set states (index_of visit.step) Unreachable) (steps_on front))
    settled_with_unreachable ends =
        let steps = visit.step ∷ steps_on front in
        let after = with_unreachable states steps in
        let more = more_known (length script) steps all_placed_steps states has.long in
        record {
          long = length-with_unreachable steps states ∙ has.long;
          begin = λ wait there marked. ⊎_elim
              (λ (on : list_any (is_step wait) steps ≡ true). let both : Unreachable ≡ Begins = sym (marked_on wait there on) ∙ marked in absurd cc)
              (λ (off : list_any (is_step wait) steps ≡ false). within_more script wait rounds (count_by is_known after) more (has.begin wait there (sym (marked_off wait there off) ∙ marked)))
              (cases_Bool (list_any (is_step wait) steps));
          unreachable = λ wait there marked. ⊎_elim
              (λ (on : list_any (is_step wait) steps ≡ true). none_begins ends wait (swapped (is_step wait) (steps_on front) visit.step ∙ on))
              (λ (off : list_any (is_step wait) steps ≡ false). has.unreachable wait there (sym (marked_off wait there off) ∙ marked))
              (cases_Bool (list_any (is_step wait) steps));
          settled = λ wait there marked. ⊎_elim
              (λ (on : list_any (is_step wait) steps ≡ true). let both : Unreachable ≡ OnPath = sym (marked_on wait there on) ∙ marked in absurd cc)
              (λ (off : list_any (is_step wait) steps ≡ false).
              let among : list_any (is_step wait) steps ≡ true = sym (swapped (is_step wait) (steps_on front) visit.step) ∙ sym (ap (list_any (is_step wait)) (steps-push front visit)) ∙ has.on_path wait there (sym (marked_off wait there off) ∙ marked) in
              let both : false ≡ true = sym off ∙ among in absurd cc)
              (cases_Bool (list_any (is_step wait) steps));
        }
      where
        all_placed_steps : AllByRecursion (IsPlaced (length script)) (visit.step ∷ steps_on front)
        all_placed_steps = (here, steps_placed (length script) front (all_front (λ (v : Visit). IsPlaced (length script) v.step) front visit has.placed))

        marked_on : (wait : Wait) → IsPlaced (length script) wait → list_any (is_step wait) (visit.step ∷ steps_on front) ≡ true → state_of (with_unreachable states (visit.step ∷ steps_on front)) wait ≡ Unreachable
        marked_on wait there on = marked_among (length script) (visit.step ∷ steps_on front) all_placed_steps states has.long wait there ∙ rw on refl

        marked_off : (wait : Wait) → IsPlaced (length script) wait → list_any (is_step wait) (visit.step ∷ steps_on front) ≡ false → state_of (with_unreachable states (visit.step ∷ steps_on front)) wait ≡ state_of states wait
        marked_off wait there off = marked_among (length script) (visit.step ∷ steps_on front) all_placed_steps states has.long wait there ∙ rw off refl

    pub never : ((OnPath ≡ state_of states next) ⊎ (Unreachable ≡ state_of states next)) → false ≡ could_begin script root.change root.step
    never ends = sym (none_begins ends root (root_among (steps_on front) first_here))
      where
        root_among : (steps : List Wait) → unwrap_or (slice_get (steps ++ visit.step ∷ []) 0) root ≡ root → list_any (is_step root) (steps ++ visit.step ∷ []) ≡ true
        root_among [] first = rw (ap (is_step root) first ∙ same_step root) refl
        root_among (wait ∷ steps) first = rw (ap (is_step root) first ∙ same_step root) refl
