-- When the events of a step come, and when its lines are written: as many seconds after its start
-- as they name.
use Rattle.std.specs.Prelude.{◌≡◌, ℕ, ◌+◌, All, IfSome, List, Option, Some, None, slice_get}
use Rattle.apply_events.specs.declared.event.Event.{Event}
use Rattle.apply_events.specs.declared.what.What.{What}
use Rattle.apply_events.specs.declared.what.What.TheVariants.{Start, Progress, Complete, Errored}
use Rattle.apply_text.specs.Latest.{latest_of}

-- the elapsed seconds that the event names: zero at the start of a step; none if it names no seconds
abbrev pub seconds_run : What → Option ℕ
seconds_run Start = Some 0
seconds_run (Progress seconds) = Some seconds
seconds_run (Complete seconds) = Some seconds
seconds_run (Errored seconds) = Some seconds
seconds_run _ = None

-- an event that names elapsed seconds comes so many seconds after the time `begin`
abbrev pub ComesAfterItsSeconds : (begin : ℕ) → Event → Type 0
ComesAfterItsSeconds begin event = IfSome (seconds_run event.what) (λ seconds. event.at ≡ begin + seconds)

-- step k of change c starts at one time, and each of its events comes so many seconds later as the
-- event names
pub record HasOneBegin (c k : ℕ) (events : List Event) : Type 0 where
  pub begin : ℕ
  pub in_time : All (λ event. event.change ≡ c → event.step ≡ k → ComesAfterItsSeconds begin event) events

-- ---- the lines of a step

-- the line of event i, if the event names elapsed seconds, has a timestamp so many seconds after
-- `begin`
abbrev pub LineComesAfterItsSeconds : (begin : ℕ) → (written : List Event) → (i : ℕ) → Event → Type 0
LineComesAfterItsSeconds begin written i event =
    IfSome (seconds_run event.what) (λ seconds. latest_of written (i + 1) ≡ begin + seconds)

-- step k of change c starts at one time, and each of its lines has a timestamp so many seconds
-- later as the line names
pub record LinesHaveOneBegin (c k : ℕ) (written : List Event) : Type 0 where
  pub begin : ℕ
  pub in_time : (i : ℕ) → IfSome (slice_get written i) (λ event.
      event.change ≡ c → event.step ≡ k → LineComesAfterItsSeconds begin written i event)
