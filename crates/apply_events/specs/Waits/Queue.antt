-- What a queue knows of turns, by number. It knows how many waits of each turn are missing, when
-- the other waits were done, and which turns are ready.
use Rattle.std.specs.Prelude.{◌≡◌, ◌<◌, ◌≤◌, ℕ, zero, suc, ◌+◌, ◌-◌, ◌*◌, ◌==◌, ◌&&◌, All, Bool, true, false, List, [], ◌∷◌, Option, Some, None, length, slice_index_or, sum_by, if◌then◌else◌}
use Rattle.std.specs.BinaryHeap.{IsHeap, heap_items}
use Rattle.std.specs.List.{AllByRecursion}
use Rattle.std.specs.Ordering.{nat_cmp, ordering_then}
use Rattle.std.specs.declared.cmp.Ordering.{Ordering}
use Rattle.std.specs.declared.cmp.Reverse.{Reverse}
use Rattle.apply_model.specs.declared.script.wait.Wait.{Wait}
use Rattle.apply_model.specs.Script.OutcomeMap.{OutcomeMap}
use Rattle.apply_model.specs.Script.Waits.{waits_of}
use Rattle.apply_events.specs.declared.lanes.lane_time.LaneTime.{LaneTime}
use Rattle.apply_events.specs.declared.lanes.queue.Queue.{Queue}
use Rattle.apply_events.specs.declared.lanes.queue.ReadyTurn.{ReadyTurn}
use Rattle.apply_events.specs.declared.lanes.queue.Waiting.{Waiting}
use Rattle.apply_events.specs.declared.lanes.queue.followers.Follower.{Follower}
use Rattle.apply_events.specs.declared.lanes.queue.followers.Followers.{Followers}
use Rattle.apply_events.specs.declared.lanes.turn.Turn.{Turn}
use Rattle.apply_events.specs.Waits.LaneTime.{IsNoLater, first_lane_time, later_of, next_round}

-- ---- words

-- 1 if the condition holds, otherwise 0.
abbrev pub one_if : Bool → ℕ
one_if true = 1
one_if false = 0

-- How often a number stands in a list.
abbrev pub times : ℕ → List ℕ → ℕ
times n [] = 0
times n (m ∷ ms) = one_if (m == n) + times n ms

-- Both steps are the same.
abbrev pub is_same_wait : Wait → Wait → Bool
is_same_wait a b = a.change == b.change && a.step == b.step

-- How often a step is named in a list.
abbrev pub named : Wait → List Wait → ℕ
named name [] = 0
named name (other ∷ others) = one_if (is_same_wait other name) + named name others

-- The steps that a turn waits for.
abbrev pub turn_waits : OutcomeMap → Turn → List Wait
turn_waits script turn = if turn.count == 0 then [] else waits_of script turn.change turn.first

-- The step before the turn's first step in its change, if there is one.
abbrev pub step_before : Turn → List Wait
step_before turn = if turn.first == 0 then [] else record { change = turn.change; step = turn.first - 1 } ∷ []

-- The steps that the turn of that number waits for.
abbrev pub names_at : List (List Wait) → ℕ → List Wait
names_at names number = slice_index_or names number []

-- ---- which steps are done

-- 1 for a step that is not done, otherwise 0.
abbrev pub missing_if : Option LaneTime → ℕ
missing_if None = 1
missing_if (Some m) = 0

-- How many of these steps are not done.
abbrev pub missing_count : (Wait → Option LaneTime) → List Wait → ℕ
missing_count done [] = 0
missing_count done (name ∷ names) = missing_if (done name) + missing_count done names

-- The later of a time and the round after a step was done, if it was done.
abbrev pub later_round_if : Option LaneTime → LaneTime → LaneTime
later_round_if None at = at
later_round_if (Some m) at = later_of (next_round m) at

-- The latest of the rounds after those in which the done steps were done.
abbrev pub ready_round_of : (Wait → Option LaneTime) → List Wait → LaneTime
ready_round_of done [] = first_lane_time
ready_round_of done (name ∷ names) = later_round_if (done name) (ready_round_of done names)

-- The done steps, with one step more.
abbrev pub with_step_done : (Wait → Option LaneTime) → Wait → LaneTime → Wait → Option LaneTime
with_step_done done step at name = if is_same_wait step name then Some at else done name

-- No step is done.
abbrev pub none_done : Wait → Option LaneTime
none_done name = None

-- ---- the turns that wait for a step

-- The number of a step among all steps: each change has two.
abbrev pub place_of : Wait → ℕ
place_of name = 2 * name.change + name.step

-- The step has a number below the limit.
abbrev pub HasPlace : Wait → (limit : ℕ) → Type 0
HasPlace name limit = (name.step < 2) × (place_of name < limit)

-- The follower at a position.
abbrev pub follower_at : List Follower → ℕ → Follower
follower_at all number = slice_index_or all number (record { turn = 0; before = 0 })

-- These are the turns of a chain that begins at `place`. Places count from 1, and each place leads
-- to the place before it.
abbrev pub IsChain : List Follower → (place : ℕ) → List ℕ → Type 0
IsChain all place [] = place ≡ 0
IsChain all place (turn ∷ turns) =
    (0 < place)
    × (place ≤ length all)
    × ((follower_at all (place - 1)).turn ≡ turn)
    × ((follower_at all (place - 1)).before < place)
    × IsChain all (follower_at all (place - 1)).before turns

-- The place of the last turn that waits for a step.
abbrev pub last_at : Followers → Wait → ℕ
last_at followers name = slice_index_or followers.last.items (place_of name) 0

-- For each step, the chain has each turn as often as `count` says.
pub record Follow (limit : ℕ) (count : Wait → ℕ → ℕ) (followers : Followers) : Type 0 where
  pub size : length followers.last.items ≡ limit
  pub chains : (name : Wait) → HasPlace name limit
      → (turns : List ℕ) × IsChain followers.all.items (last_at followers name) turns × ((number : ℕ) → times number turns ≡ count name number)

-- The count, with one turn more that waits for these steps.
abbrev pub with_waits_of : (Wait → ℕ → ℕ) → (turn : ℕ) → List Wait → Wait → ℕ → ℕ
with_waits_of count turn names name number = (if number == turn then named name names else 0) + count name number

-- How often each turn names a step.
abbrev pub counts_of : List (List Wait) → Wait → ℕ → ℕ
counts_of names name number = named name (names_at names number)

-- ---- the turns that wait, and those that are ready

-- What the turn of that number still waits for.
abbrev pub waiting_at : List Waiting → ℕ → Waiting
waiting_at waiting number = slice_index_or waiting number (record { missing = 0; at = first_lane_time })

-- The later of two times, where n waits of the turn were done at `later`; the second time where n
-- is 0.
abbrev pub late_after : ℕ → (later : LaneTime) → LaneTime → LaneTime
late_after zero later at = at
late_after (suc more) later at = later_of at later

-- The order of ready turns: by time, then by number.
abbrev pub ready_cmp : ReadyTurn → ReadyTurn → Ordering
ready_cmp a b = ordering_then (ordering_then (nat_cmp a.at.second b.at.second) (nat_cmp a.at.round b.at.round)) (nat_cmp a.number b.number)

-- The reverse order, for a heap whose greatest item is taken first.
abbrev pub reverse_cmp : Reverse ReadyTurn → Reverse ReadyTurn → Ordering
reverse_cmp a b = ready_cmp b.0 a.0

-- How often a turn stands in the list of ready turns.
abbrev pub standing : ℕ → List (Reverse ReadyTurn) → ℕ
standing number ready = sum_by (λ one. one_if (one.0.number == number)) ready

-- The ready turn has no missing wait, and is ready at the time that the queue states.
abbrev pub IsRipe : List Waiting → Reverse ReadyTurn → Type 0
IsRipe waiting one =
    (one.0.number < length waiting)
    × ((waiting_at waiting one.0.number).missing ≡ 0)
    × ((waiting_at waiting one.0.number).at ≡ one.0.at)

-- The state of a queue while it records one done step. Some steps are done and some turns were
-- taken. `left` lists a turn once for each of its waits that the queue has not recorded yet.
-- `later` is the round after that in which the step was done.
pub record Stands (names : List (List Wait)) (done : Wait → Option LaneTime) (left : List ℕ) (later : LaneTime) (started : List ℕ) (waiting : List Waiting) (ready : List (Reverse ReadyTurn)) : Type 0 where
  pub size : length waiting ≡ length names
  pub known : AllByRecursion (λ number. number < length names) left
  pub missing : (number : ℕ) → number < length names → (waiting_at waiting number).missing ≡ missing_count done (names_at names number) + times number left
  pub late : (number : ℕ) → number < length names → late_after (times number left) later (waiting_at waiting number).at ≡ ready_round_of done (names_at names number)
  pub ripe : All (IsRipe waiting) ready
  pub each : (number : ℕ) → number < length names → standing number ready + times number started ≡ one_if ((waiting_at waiting number).missing == 0)
  pub heap : IsHeap reverse_cmp ready

-- The queue of turns that wait for these steps, where some steps are done and some turns were
-- taken.
pub record IsQueue (limit : ℕ) (names : List (List Wait)) (done : Wait → Option LaneTime) (started : List ℕ) (queue : Queue) : Type 0 where
  pub follow : Follow limit (counts_of names) queue.followers
  pub stands : Stands names done [] first_lane_time started queue.waiting.items (heap_items queue.ready)

-- ---- which turn comes first

-- The turn was not taken, and all its waits are done.
abbrev pub IsDue : List (List Wait) → (Wait → Option LaneTime) → (started : List ℕ) → ℕ → Type 0
IsDue names done started number = (number < length names) × (missing_count done (names_at names number) ≡ 0) × (times number started ≡ 0)

-- The turn is ready first. Of several such turns it is the first in the plan.
pub record IsFirstDue (names : List (List Wait)) (done : Wait → Option LaneTime) (started : List ℕ) (one : ReadyTurn) : Type 0 where
  pub due : IsDue names done started one.number
  pub at : ready_round_of done (names_at names one.number) ≡ one.at
  pub first : (other : ℕ) → IsDue names done started other
      → IsNoLater one.at (ready_round_of done (names_at names other)) × (one.at ≡ ready_round_of done (names_at names other) → one.number ≤ other)
