-- What is left of a search for steps that could begin: less with each turn.
use Rattle.std.proofs.Common.{◌≡◌, ℕ, ◌+◌, ◌-◌, ◌*◌, ◌<◌, ◌≤◌, false, List, [], ◌∷◌, ◌++◌, length, set, refl, ap, arith}
use Rattle.std.specs.Prelude.{sum_by}
use Rattle.std.specs.List.{count_by}
use Rattle.std.proofs.lemmas.List.Sums.{sum_by_push}
use Rattle.apply_model.specs.declared.script.wait.Wait.{Wait}
use Rattle.apply_resolve.specs.declared.reachability.Visit.{Visit}
use Rattle.apply_resolve.specs.declared.visit_state.VisitState.{VisitState}
use Rattle.apply_resolve.specs.declared.visit_state.VisitState.TheVariants.{Unseen, OnPath, Begins}
use Rattle.apply_resolve.specs.VisitStates.{index_of, state_of}
use Rattle.apply_resolve.proofs.Marked.{counted_after, is_unseen, one_where}

-- it falls with each step
abbrev pub left_of : List VisitState → List Visit → ℕ
left_of states path = 1000004 * count_by is_unseen states + sum_by (λ visit. 1000002 - visit.passed + 1) path

abbrev left_at : Visit → ℕ
left_at visit = 1000002 - visit.passed + 1

unseen_after : (states : List VisitState) (wait : Wait) (state : VisitState) → index_of wait < length states → is_unseen state ≡ false → count_by is_unseen (set states (index_of wait) state) ≤ count_by is_unseen states
unseen_after states wait state below none =
    let counted = counted_after is_unseen states wait state below in
    let nothing : one_where (is_unseen state) ≡ 0 = ap one_where none in
    omega (arith, counted, nothing)

pub less_to_begin : (states : List VisitState) (path front : List Visit) (visit : Visit) → path ≡ front ++ visit ∷ [] → index_of visit.step < length states → left_of (set states (index_of visit.step) Begins) front < left_of states path
less_to_begin states path front visit is below =
    let fewer = unseen_after states visit.step Begins below refl in
    omega (arith, ap (sum_by left_at) is, sum_by_push left_at front visit, fewer)

pub less_to_pass : (states : List VisitState) (path front grown : List Visit) (visit : Visit) → path ≡ front ++ visit ∷ [] → grown ≡ front ++ record { step = visit.step; passed = visit.passed + 1 } ∷ [] → visit.passed ≤ 1000000 → left_of states grown < left_of states path
less_to_pass states path front grown visit is grown_is few =
    omega (arith, ap (sum_by left_at) is, sum_by_push left_at front visit, ap (sum_by left_at) grown_is, sum_by_push left_at front (record { step = visit.step; passed = visit.passed + 1 }))

pub less_to_see : (states : List VisitState) (path front grown : List Visit) (visit : Visit) (next : Wait) → path ≡ front ++ visit ∷ [] → grown ≡ (front ++ visit ∷ []) ++ record { step = next; passed = 0 } ∷ [] → index_of next < length states → state_of states next ≡ Unseen
    → left_of (set states (index_of next) OnPath) grown < left_of states path
less_to_see states path front grown visit next is grown_is below unseen =
    let counted = counted_after is_unseen states next OnPath below in
    let one : one_where (is_unseen (state_of states next)) ≡ 1 = ap (λ (m : VisitState). one_where (is_unseen m)) unseen in
    let fewer : count_by is_unseen (set states (index_of next) OnPath) + 1 ≡ count_by is_unseen states = omega (arith, counted, one) in
    omega (arith, ap (sum_by left_at) is, sum_by_push left_at front visit, ap (sum_by left_at) grown_is, sum_by_push left_at (front ++ visit ∷ []) (record { step = next; passed = 0 }), fewer)
