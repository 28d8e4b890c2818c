-- Marks of steps: what one is after another one was set, or those of a path.
use Rattle.std.proofs.Common.{◌≡◌, ℕ, ◌+◌, ◌*◌, ◌<◌, ◌≤◌, Bool, true, false, cond, List, [], ◌∷◌, length, map, set, drop, get_or, refl, sym, ap, ◌∙◌, arith, ◌⊎◌, ⊎_elim, inl, inr}
use Rattle.std.specs.Prelude.{◌==◌}
use Rattle.std.specs.List.{AllByRecursion, count_by, list_any}
use Rattle.std.proofs.lemmas.Bool.{cases_Bool}
use Rattle.std.proofs.lemmas.Bool.Decides.{eqb_tells}
use Rattle.std.proofs.lemmas.List.{drop_all, get_or-set_other, get_or-set_same, length-set}
use Rattle.std.proofs.lemmas.List.Sums.{sum_by-set}
use Rattle.apply_model.proofs.Lists.{left_at}
use Rattle.apply_model.specs.declared.script.wait.Wait.{Wait}
use Rattle.apply_model.specs.Script.OutcomeMap.{OutcomeMap}
use Rattle.apply_resolve.specs.declared.reachability.Visit.{Visit}
use Rattle.apply_resolve.specs.declared.visit_state.VisitState.{VisitState}
use Rattle.apply_resolve.specs.declared.visit_state.VisitState.TheVariants.{Unseen, OnPath, Begins, Unreachable}
use Rattle.apply_resolve.specs.VisitStates.{AreUnreachable, index_of, is_known, state_of, with_unreachable}
use Rattle.apply_resolve.specs.Placed.{IsPlaced}
use Rattle.apply_resolve.proofs.Rounds.{is_step, same_step, steps_equal}

pub index_same : (n : ℕ) (one other : Wait) → IsPlaced n one → IsPlaced n other → index_of one ≡ index_of other → (one.change ≡ other.change) × (one.step ≡ other.step)
index_same n one other here there same =
    let low = here.step_below in
    let low_other = there.step_below in
    let change : one.change ≡ other.change = omega arith in
    (change, omega arith)

pub in_states : (n : ℕ) (states : List VisitState) (wait : Wait) → length states ≡ 2 * n → IsPlaced n wait → index_of wait < length states
in_states n states wait long placed = let below = placed.change_below in let low = placed.step_below in omega arith

-- the state of a step, after one state was set
pub state_after : (states : List VisitState) (wait other : Wait) (state : VisitState) → index_of wait < length states
    → ((index_of other ≡ index_of wait) × (state_of (set states (index_of wait) state) other ≡ state)) ⊎ ((index_of other ≡ index_of wait → ⊥) × (state_of (set states (index_of wait) state) other ≡ state_of states other))
state_after states wait other state below = ⊎_elim
    (λ (yes : ((index_of other == index_of wait) ≡ true) × (index_of other ≡ index_of wait)).
    inl (yes.1, ap (λ (i : ℕ). get_or (set states (index_of wait) state) i Unseen) yes.1 ∙ get_or-set_same states (index_of wait) state Unseen below))
    (λ (no : ((index_of other == index_of wait) ≡ false) × (index_of other ≡ index_of wait → ⊥)). inr (no.1, get_or-set_other states (index_of wait) (index_of other) state Unseen no.1))
    (eqb_tells (index_of other) (index_of wait))

abbrev pub is_unseen : VisitState → Bool
is_unseen Unseen = true
is_unseen OnPath = false
is_unseen Begins = false
is_unseen Unreachable = false

-- the step is on the path, or was, and could begin
abbrev pub is_going : VisitState → Bool
is_going Unseen = false
is_going OnPath = true
is_going Begins = true
is_going Unreachable = false

abbrev pub one_where : Bool → ℕ
one_where b = cond b 1 0

-- how often a test passes, after one state was set
pub counted_after : (p : VisitState → Bool) (states : List VisitState) (wait : Wait) (state : VisitState) → index_of wait < length states
    → count_by p (set states (index_of wait) state) + one_where (p (state_of states wait)) ≡ count_by p states + one_where (p state)
counted_after p states wait state below = sum_by-set (λ (m : VisitState). one_where (p m)) states (index_of wait) state Unseen below

-- a step that goes on still does, after the state of any step was set to this
pub going_after : (states : List VisitState) (wait other : Wait) (state : VisitState) → index_of wait < length states → is_going state ≡ true → is_going (state_of states other) ≡ true
    → is_going (state_of (set states (index_of wait) state) other) ≡ true
going_after states wait other state below goes was = ⊎_elim
    (λ (same : (index_of other ≡ index_of wait) × (state_of (set states (index_of wait) state) other ≡ state)). ap is_going same.1 ∙ goes)
    (λ (apart : (index_of other ≡ index_of wait → ⊥) × (state_of (set states (index_of wait) state) other ≡ state_of states other)). ap is_going apart.1 ∙ was)
    (state_after states wait other state below)

-- if another state was set, a step that has one of these states had it before
pub unreachable_before : (script : OutcomeMap) (states : List VisitState) (wait : Wait) (state : VisitState) → index_of wait < length states → (state ≡ Unreachable → ⊥) → AreUnreachable script states → AreUnreachable script (set states (index_of wait) state)
unreachable_before script states wait state below not unreachable other placed marked = ⊎_elim
    (λ (same : (index_of other ≡ index_of wait) × (state_of (set states (index_of wait) state) other ≡ state)). absurd (not (sym same.1 ∙ marked)))
    (λ (apart : (index_of other ≡ index_of wait → ⊥) × (state_of (set states (index_of wait) state) other ≡ state_of states other)). unreachable other placed (sym apart.1 ∙ marked))
    (state_after states wait other state below)

-- of as many steps it is known after a step was put on the path
pub same_known : (states : List VisitState) (wait : Wait) → index_of wait < length states → is_known (state_of states wait) ≡ false → count_by is_known (set states (index_of wait) OnPath) ≡ count_by is_known states
same_known states wait below not =
    let counted = counted_after is_known states wait OnPath below in
    let none : one_where (is_known (state_of states wait)) ≡ 0 = ap one_where not in
    omega (arith, counted, none)

pub path_is_not_unreachable : OnPath ≡ Unreachable → ⊥
path_is_not_unreachable e = absurd cc

pub set_going : (states : List VisitState) (wait : Wait) → index_of wait < length states → is_going (state_of (set states (index_of wait) OnPath) wait) ≡ true
set_going states wait below = ap is_going (get_or-set_same states (index_of wait) OnPath Unseen below)

pub is_step_of : (n : ℕ) (one other : Wait) → IsPlaced n one → IsPlaced n other → index_of one ≡ index_of other → is_step one other ≡ true
is_step_of n one other here there same =
    let equal = index_same n one other here there same in
    rw (equal.0, equal.1) (same_step other)

-- ---- a path is marked

-- the state of a step afterwards: another state if the step is on the path
pub marked_among : (n : ℕ) (waits : List Wait) → AllByRecursion (IsPlaced n) waits → (states : List VisitState) → length states ≡ 2 * n → (other : Wait) → IsPlaced n other
    → state_of (with_unreachable states waits) other ≡ cond (list_any (is_step other) waits) Unreachable (state_of states other)
marked_among n [] all states long other there = refl
marked_among n (wait ∷ waits) all states long other there =
    let below = in_states n states wait long all.0 in
    marked_among n waits all.1 (set states (index_of wait) Unreachable) (length-set states (index_of wait) Unreachable ∙ long) other there
    ∙ ⊎_elim
    (λ (same : (index_of other ≡ index_of wait) × (state_of (set states (index_of wait) Unreachable) other ≡ Unreachable)).
    rw (same.1, is_step_of n other wait there all.0 same.0) (either_way (list_any (is_step other) waits)))
    (λ (apart : (index_of other ≡ index_of wait → ⊥) × (state_of (set states (index_of wait) Unreachable) other ≡ state_of states other)).
    rw (apart.1, not_step_of other wait apart.0) refl)
    (state_after states wait other Unreachable below)
  where
    either_way : (b : Bool) → cond b Unreachable Unreachable ≡ Unreachable
    either_way true = refl
    either_way false = refl

    not_step_of : (one another : Wait) → (index_of one ≡ index_of another → ⊥) → is_step one another ≡ false
    not_step_of one another apart = ⊎_elim
        (λ (yes : is_step one another ≡ true). let equal = steps_equal one another yes in absurd (apart (let change = equal.0 in let step = equal.1 in omega arith)))
        (λ (no : is_step one another ≡ false). no)
        (cases_Bool (is_step one another))

pub length-with_unreachable : (waits : List Wait) (states : List VisitState) → length (with_unreachable states waits) ≡ length states
length-with_unreachable [] states = refl
length-with_unreachable (wait ∷ waits) states = length-with_unreachable waits (set states (index_of wait) Unreachable) ∙ length-set states (index_of wait) Unreachable

-- of no fewer steps it is known then
pub more_known : (n : ℕ) (waits : List Wait) → AllByRecursion (IsPlaced n) waits → (states : List VisitState) → length states ≡ 2 * n → count_by is_known states ≤ count_by is_known (with_unreachable states waits)
more_known n [] all states long = let same : count_by is_known (with_unreachable states []) ≡ count_by is_known states = refl in omega (arith, same)
more_known n (wait ∷ waits) all states long =
    let counted = counted_after is_known states wait Unreachable (in_states n states wait long all.0) in
    let few = at_most_one (is_known (state_of states wait)) in
    let rest = more_known n waits all.1 (set states (index_of wait) Unreachable) (length-set states (index_of wait) Unreachable ∙ long) in
    let first : count_by is_known states ≤ count_by is_known (set states (index_of wait) Unreachable) = omega (arith, counted, few) in
    omega (arith, first, rest)
  where
    at_most_one : (b : Bool) → one_where b ≤ 1
    at_most_one true = omega arith
    at_most_one false = omega arith

-- ---- a path is marked, step by step

abbrev pub steps_left : ℕ → List Visit → List Wait
steps_left n path = map (λ visit. visit.step) (drop n path)

pub one_marked : (states : List VisitState) (path : List Visit) (n : ℕ) (visit : Visit) → n < length path → visit ≡ get_or path n visit
    → with_unreachable (set states (index_of visit.step) Unreachable) (steps_left (n + 1) path) ≡ with_unreachable states (steps_left n path)
one_marked states path n visit below is = rw (left_at path n visit below is) refl

pub all_marked : (states : List VisitState) (path : List Visit) (n : ℕ) → length path ≤ n → with_unreachable states (steps_left n path) ≡ states
all_marked states path n past = rw (drop_all n path past) refl
