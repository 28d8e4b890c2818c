-- Told objects that began in lanes.
use Rattle.std.specs.Prelude.{◌≡◌, ◌<◌, ◌≤◌, All, List, get_or, length}
use Rattle.std.specs.Coded.{le_prop, Π_prop}
use native.Mathlib.Nat.{ℕ_set}
use Rattle.apply_events.specs.declared.event.Event.{Event}
use Rattle.apply_events.specs.declared.lanes.turn.StartedTurn.{StartedTurn}
use Rattle.apply_events.specs.Waits.Done.{end_of_turn}
use Rattle.apply_planning.specs.declared.told.Told.{Told}
use Rattle.apply_planning.specs.PlanningWork.{max_seconds_in_all, planning_work}

-- The turn is the only one of a told object, and ends in time.
pub record HasBegun (told : List Told) (one : StartedTurn) : Type 0 where
  pub first : one.turn.first ≡ 0
  pub count : one.turn.count ≡ 1
  pub known : one.turn.change < length told
  pub in_time : (end_of_turn (planning_work told) one).second ≤ max_seconds_in_all

HasBegun-prop : (told : List Told) (one : StartedTurn) → IsProp (HasBegun told one)
HasBegun-prop told one = λ p q i. record {
  first = ℕ_set _ _ p.first q.first i;
  count = ℕ_set _ _ p.count q.count i;
  known = le_prop p.known q.known i;
  in_time = le_prop p.in_time q.in_time i;
}

-- That fact has at most one proof, so it may be a ghost field.
pub AllBegun-prop : (told : List Told) (started : List StartedTurn) → IsProp (All (HasBegun told) started)
AllBegun-prop told started = Π_prop λ i. Π_prop λ d. Π_prop λ _. HasBegun-prop told (get_or started i d)

-- The event comes no later than all told objects may take together.
abbrev pub IsInTime : Event → Type 0
IsInTime event = event.at ≤ max_seconds_in_all

-- And so this one.
pub AllInTime-prop : (events : List Event) → IsProp (All IsInTime events)
AllInTime-prop events = Π_prop λ i. Π_prop λ d. Π_prop λ _. λ p q j. le_prop p q j
