-- How many told objects of each name are not done, and when the others were.
use Rattle.std.specs.Prelude.{◌≡◌, ◌⊎◌, ◌<◌, ◌≤◌, ℕ, zero, suc, ◌+◌, ◌*◌, ◌==◌, ◌&&◌, List, [], Option, Some, None, length, slice_index_or, if◌then◌else◌}
use Rattle.apply_model.specs.declared.script.wait.Wait.{Wait}
use Rattle.apply_model.specs.declared.details.note.Note.{Note}
use Rattle.apply_events.specs.declared.lanes.lane_time.LaneTime.{LaneTime}
use Rattle.apply_events.specs.Waits.LaneTime.{IsNoLater, first_lane_time}
use Rattle.apply_events.specs.Waits.Queue.{IsQueue, missing_if, with_step_done}
use Rattle.apply_events.specs.declared.lanes.queue.Queue.{Queue}
use Rattle.apply_planning.specs.declared.pending_names.PendingName.{PendingName}
use Rattle.apply_planning.specs.declared.pending_names.PendingNames.{PendingNames}
use Rattle.apply_planning.specs.declared.told.Told.{Told}
use Rattle.apply_planning.specs.Names.{first_named, name_wait, names_of}
use Rattle.apply_planning.specs.PlanningWork.{is_error}

-- The most told objects.
abbrev pub max_told : ℕ
max_told = 67108864

-- The number of the name of object c. No object has the number that stands for none.
abbrev pub owner_at : List ℕ → (c : ℕ) → ℕ
owner_at owners c = slice_index_or owners c (c + 1)

-- What is known of name k.
abbrev pub name_at : List PendingName → (k : ℕ) → PendingName
name_at names k = slice_index_or names k (record { pending = 0; at = first_lane_time })

-- 1 for an object of name k that is not done, otherwise 0.
abbrev pub pending_if : List ℕ → (done : Wait → Option LaneTime) → (k c : ℕ) → ℕ
pending_if owners done k c = if owner_at owners c == k then missing_if (done (name_wait c)) else 0

-- How many of the first objects are of name k and not done.
abbrev pub pending_count : List ℕ → (done : Wait → Option LaneTime) → (k count : ℕ) → ℕ
pending_count owners done k zero = 0
pending_count owners done k (suc c) = pending_if owners done k c + pending_count owners done k c

-- One of the objects of name k was done at that time.
abbrev pub WasDone : (owners : List ℕ) (done : Wait → Option LaneTime) (k : ℕ) → LaneTime → Type 0
WasDone owners done k at = (c : ℕ) × (c < length owners) × (owner_at owners c ≡ k) × (done (name_wait c) ≡ Some at)

-- None of the objects of name k is done.
abbrev pub NoneDone : (owners : List ℕ) (done : Wait → Option LaneTime) (k : ℕ) → Type 0
NoneDone owners done k = (c : ℕ) → c < length owners → owner_at owners c ≡ k → done (name_wait c) ≡ None

-- Of each name it is known how many objects are not done, and when the last of the others was.
pub record ArePending (told : List Told) (done : Wait → Option LaneTime) (pending : PendingNames) : Type 0 where
  pub owners : length pending.owners.items ≡ length told
  pub size : length pending.names.items ≡ length told
  pub owner : (c : ℕ) → c < length told → first_named told (slice_index_or (names_of told) c []) ≡ Some (owner_at pending.owners.items c)
  pub count : (k : ℕ) → k < length told → (name_at pending.names.items k).pending ≡ pending_count pending.owners.items done k (length told)
  pub late : (k c : ℕ) (m : LaneTime) → c < length told → owner_at pending.owners.items c ≡ k → done (name_wait c) ≡ Some m → IsNoLater m (name_at pending.names.items k).at
  pub met : (k : ℕ) → k < length told → WasDone pending.owners.items done k (name_at pending.names.items k).at ⊎ (((name_at pending.names.items k).at ≡ first_lane_time) × NoneDone pending.owners.items done k)
  pub low : (k : ℕ) → (name_at pending.names.items k).at.round ≤ max_told

-- When a name is done: once none of its objects is pending.
abbrev pub named_done : PendingNames → Wait → Option LaneTime
named_done pending name =
    if name.step == 0 && owner_at pending.owners.items name.change == name.change && (name_at pending.names.items name.change).pending == 0
    then Some (name_at pending.names.items name.change).at
    else None

-- An object is done, and with it the given name, if there is one.
abbrev pub Closes : (old : PendingNames) → Option (Wait × LaneTime) → (new : PendingNames) → Type 0
Closes old None new = (other : Wait) → named_done old other ≡ named_done new other
Closes old (Some closed) new =
    (closed.0.step ≡ 0)
    × (closed.0.change < length old.owners.items)
    × (named_done old closed.0 ≡ None)
    × (closed.1.round ≤ max_told)
    × ((other : Wait) → with_step_done (named_done old) closed.0 closed.1 other ≡ named_done new other)

-- ---- while objects are run

-- The queue has these names for each object and knows which names are done. Object `number` runs
-- now, and is not done.
pub record IsPlanned (told : List Told) (done : Wait → Option LaneTime) (names : List (List Wait)) (numbers : List ℕ) (number : ℕ) (pending : PendingNames) (queue : Queue) : Type 0 where
  pub counted : ArePending told done pending
  pub queued : IsQueue (2 * length told) names (named_done pending) numbers queue
  pub known : number < length told
  pub new : done (name_wait number) ≡ None

-- The done steps after an object ran that ends at that time. It is not done where it failed.
abbrev pub done_with : Option Note → (number : ℕ) → (end : LaneTime) → (Wait → Option LaneTime) → Wait → Option LaneTime
done_with failure number end done = if is_error failure then done else with_step_done done (name_wait number) end
