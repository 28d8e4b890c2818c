-- The states of steps in a search for steps that can never begin, for private clauses.
use Rattle.std.specs.Prelude.{◌≡◌, ℕ, ◌+◌, ◌*◌, List, count_by, fold, length, slice_index_or, slice_set, Bool, true, false}
use Rattle.apply_model.specs.declared.script.wait.Wait.{Wait}
use Rattle.apply_model.specs.Script.OutcomeMap.{OutcomeMap}
use Rattle.apply_model.specs.Script.Waits.{begins_within, could_begin}
use Rattle.apply_resolve.specs.declared.visit_state.VisitState.{VisitState}
use Rattle.apply_resolve.specs.declared.visit_state.VisitState.TheVariants.{Unseen, OnPath, Begins, Unreachable}
use Rattle.apply_resolve.specs.Placed.{IsPlaced}

-- The position of the state of a step: each change has two.
abbrev pub index_of : Wait → ℕ
index_of wait = 2 * wait.change + wait.step

-- The state of a step.
abbrev pub state_of : List VisitState → Wait → VisitState
state_of states wait = slice_index_or states (index_of wait) Unseen

-- The states with these steps set to `Unreachable`.
abbrev pub with_unreachable : List VisitState → List Wait → List VisitState
with_unreachable states waits = fold (λ marked wait. slice_set marked (index_of wait) Unreachable) states waits

-- The state decides whether the step could begin.
abbrev pub is_known : VisitState → Bool
is_known Unseen = false
is_known OnPath = false
is_known Begins = true
is_known Unreachable = true

-- Each step with the state `Begins` begins, within as many rounds as there are decided steps.
abbrev pub AreReachable : OutcomeMap → List VisitState → Type 0
AreReachable script states = (wait : Wait) → IsPlaced (length script) wait → state_of states wait ≡ Begins
    → begins_within script (count_by is_known states) wait.change wait.step ≡ true

-- No step with the state `Unreachable` can ever begin.
abbrev pub AreUnreachable : OutcomeMap → List VisitState → Type 0
AreUnreachable script states = (wait : Wait) → IsPlaced (length script) wait → state_of states wait ≡ Unreachable
    → could_begin script wait.change wait.step ≡ false

-- The states between two searches: no step is on a path.
pub record AreSettled (script : OutcomeMap) (states : List VisitState) : Type 0 where
  pub long : length states ≡ 2 * length script
  pub begin : AreReachable script states
  pub unreachable : AreUnreachable script states
  pub settled : (wait : Wait) → IsPlaced (length script) wait → state_of states wait ≡ OnPath → ⊥
