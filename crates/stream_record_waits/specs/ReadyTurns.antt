-- The turns that are ready, in a tournament tree.
use Rattle.std.specs.Prelude.{◌≡◌, ◌<◌, ◌≤◌, ℕ, ◌+◌, ◌*◌, ◌&&◌, ◌||◌, List, Bool, length, nat_lt, not, slice_index_or, Option, Some, None, if◌then◌else◌, true, ◌⊎◌, ⊤}
use Rattle.std.specs.List.{Contains}
use Rattle.stream_record_waits.specs.declared.course.ReadyTurn.{ReadyTurn}
use Rattle.stream_record_waits.specs.declared.ready_turns.ReadyTurns.{ReadyTurns}
use Rattle.stream_record_waits.specs.Course.{Basis, Course, begins_turn, is_joined, next_of}
use Rattle.stream_record_waits.specs.Graph.{waits_at}
use Rattle.stream_record_waits.specs.LaneTime.{IsNoLater, is_earlier}

-- A turn goes before another: it is ready earlier, or at the same time and begins with a lower
-- step.
abbrev pub goes_first : ReadyTurn → ReadyTurn → Bool
goes_first a b = is_earlier a.at b.at || not (is_earlier b.at a.at) && nat_lt a.step b.step

-- The turn that goes first of two turns that may be ready.
abbrev pub first_of : Option ReadyTurn → Option ReadyTurn → Option ReadyTurn
first_of None b = b
first_of (Some a) None = Some a
first_of (Some a) (Some b) = if goes_first b a then Some b else Some a

-- The second turn does not go before the first one.
abbrev pub IsNoLaterTurn : ReadyTurn → ReadyTurn → Type 0
IsNoLaterTurn a b = IsNoLater a.at b.at × (a.at.second ≡ b.at.second → a.at.round ≡ b.at.round → a.step ≤ b.step)

-- The same of two turns that may be ready. A turn that is not ready goes last.
abbrev pub IsNoLaterIf : Option ReadyTurn → Option ReadyTurn → Type 0
IsNoLaterIf a None = ⊤
IsNoLaterIf None (Some b) = ⊥
IsNoLaterIf (Some a) (Some b) = IsNoLaterTurn a b

abbrev pub node_at : List (Option ReadyTurn) → ℕ → Option ReadyTurn
node_at nodes node = slice_index_or nodes node None

-- The turn of a step.
abbrev pub turn_in : ReadyTurns → ℕ → Option ReadyTurn
turn_in turns step = node_at turns.nodes.items (turns.count + step)

-- A node is the turn that goes first of its children.
abbrev pub IsParent : List (Option ReadyTurn) → ℕ → Type 0
IsParent nodes node = node_at nodes node ≡ first_of (node_at nodes (2 * node)) (node_at nodes (2 * node + 1))

-- There is a leaf for each step, and each node from 1 to the leaves is a parent.
pub record IsTree (turns : ReadyTurns) : Type 0 where
  pub size : length turns.nodes.items ≡ 2 * turns.count
  pub parents : (node : ℕ) → 0 < node → node < turns.count → IsParent turns.nodes.items node

-- A step has the turn.
pub record HasTurn (turns : ReadyTurns) (turn : ReadyTurn) : Type 0 where
  pub step : ℕ
  pub within : step < turns.count
  pub has : turn_in turns step ≡ Some turn

-- The turn that goes first of all that are ready.
pub record IsFirstIn (turns : ReadyTurns) (first : Option ReadyTurn) : Type 0 where
  pub least : (step : ℕ) → step < turns.count → IsNoLaterIf first (turn_in turns step)
  pub among : (turn : ReadyTurn) → first ≡ Some turn → HasTurn turns turn

-- The turn that begins with a step, if there is one that has not started and is ready at some time.
abbrev pub turn_of : Basis → Course → ℕ → Option ReadyTurn
turn_of basis course step = if begins_turn basis step then next_of basis course step else None

-- The turns of all steps in a course.
pub record AreReadyTurns (basis : Basis) (course : Course) (turns : ReadyTurns) : Type 0 where
  pub tree : IsTree turns
  pub each : turns.count ≡ length basis.steps
  pub are : (step : ℕ) → step < length basis.steps → turn_in turns step ≡ turn_of basis course step

-- The turns of these steps are those in the course. So are all turns that were so before.
pub record AreRenewed (basis : Basis) (course : Course) (old new : ReadyTurns) (P : ℕ → Type 0) : Type 0 where
  pub tree : IsTree new
  pub each : new.count ≡ old.count
  pub stay : (step : ℕ) → step < length basis.steps → turn_in old step ≡ turn_of basis course step → turn_in new step ≡ turn_of basis course step
  pub renewed : (step : ℕ) → step < length basis.steps → P step → turn_in new step ≡ turn_of basis course step

-- A turn may be ready at another time once the turn that begins with a step was put back or
-- started: it is that turn, or it may wait for that step or for the second step of that turn.
abbrev pub IsAffected : Basis → (waiters : List (List ℕ)) → ℕ → ℕ → Type 0
IsAffected basis waiters step other =
    (other ≡ step) ⊎ (Contains (waits_at waiters step) other ⊎ ((is_joined basis (step + 1) ≡ true) × Contains (waits_at waiters (step + 1)) other))
