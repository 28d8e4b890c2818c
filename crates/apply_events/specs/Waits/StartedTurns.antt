-- Turns that lanes may start, in any valid schedule.
use Rattle.std.specs.Prelude.{◌≡◌, ◌<◌, ℕ, ◌++◌, ◌∷◌, All, List, Some, None, false}
use Rattle.std.specs.List.{Contains}
use Rattle.apply_events.specs.Step.{Work}
use Rattle.apply_events.specs.declared.event.Event.{Event}
use Rattle.apply_events.specs.Interleaving.{IsInterleaving}
use Rattle.apply_events.specs.declared.lanes.turn.StartedTurn.{StartedTurn}
use Rattle.apply_events.specs.Waits.Done.{end_of_turn, ready_at}
use Rattle.apply_events.specs.declared.lanes.lane_time.LaneTime.{LaneTime}
use Rattle.apply_events.specs.Waits.LaneTime.{IsNoLater}
use Rattle.apply_events.specs.Waits.Schedule.{is_started}
use Rattle.apply_events.specs.Waits.TimeLine.{lane_turns}
use Rattle.apply_events.specs.Waits.Turn.{turns}

-- In view of the turns that started before it, the turn is ready by its begin.
pub record IsReady (work : Work) (before : List StartedTurn) (one : StartedTurn) : Type 0 where
  pub at : LaneTime
  pub ready : ready_at work before one.turn ≡ Some at
  pub in_time : IsNoLater at one.begin

-- The turns that its lane started before it have ended by its begin.
abbrev pub IsFree : Work → List StartedTurn → StartedTurn → Type 0
IsFree work before one = All (λ other. other.lane ≡ one.lane → IsNoLater (end_of_turn work other) one.begin) before

-- Turns that n lanes may start; the last start is the head of the list. Each is a turn of the work,
-- starts once, in one of the lanes, when it is ready and its lane is free. Each other turn waits
-- for a step that is never done.
pub record WereStarted (work : Work) (n : ℕ) (started : List StartedTurn) : Type 0 where
  pub known : All (λ one. Contains (turns work) one.turn) started
  pub in_lanes : All (λ one. one.lane < n) started
  pub ready : (later before : List StartedTurn) (one : StartedTurn) → started ≡ later ++ one ∷ before → IsReady work before one
  pub free : (later before : List StartedTurn) (one : StartedTurn) → started ≡ later ++ one ∷ before → IsFree work before one
  pub once : (later before : List StartedTurn) (one : StartedTurn) → started ≡ later ++ one ∷ before → is_started before one.turn ≡ false
  pub left_out : All (λ turn. is_started started turn ≡ false → ready_at work started turn ≡ None) (turns work)

-- For some turns that n lanes may start, the events are an interleaving of the lanes' events.
pub record IsAppliedInTurns (work : Work) (n : ℕ) (events : List Event) : Type 0 where
  pub started : List StartedTurn
  pub were_started : WereStarted work n started
  pub interleaved : IsInterleaving n (lane_turns work started) events
