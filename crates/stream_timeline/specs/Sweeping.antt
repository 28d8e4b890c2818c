-- The state of a sweep over begins and ends, for private clauses.
use Rattle.std.specs.Prelude.{◌≡◌, ◌<◌, ◌≤◌, ◌^◌, ℕ, ◌+◌, ◌-◌, ◌==◌, nat_lt, List, [], ◌∷◌, if◌then◌else◌, Option, Some, None}
use Rattle.stream_timeline.specs.declared.numbers.edge.Edge.{Edge}
use Rattle.stream_timeline.specs.declared.numbers.running.Running.{Running}
use Rattle.stream_timeline.specs.declared.numbers.stretch.Stretch.{Stretch}

-- the counts and sums have room for one more edge
pub record IsSmall (running : Running) : Type 0 where
  pub begun : running.begun < 2 ^ 63
  pub ended : running.ended < 2 ^ 63
  pub begun_places : running.begun_places < 2 ^ 127
  pub ended_places : running.ended_places < 2 ^ 127

-- No more intervals have ended than begun. If exactly one runs, the difference of the sums is a
-- place of 64 bits.
pub record IsReady (running : Running) : Type 0 where
  pub number : running.ended ≤ running.begun
  pub places : running.ended_places ≤ running.begun_places
  pub place : running.begun - running.ended ≡ 1 → running.begun_places - running.ended_places < 2 ^ 64

abbrev pub nothing_running : Running
nothing_running = record { begun = 0; ended = 0; begun_places = 0; ended_places = 0 }

abbrev pub next_running : Edge → Running → Running
next_running edge running =
    if edge.is_end
    then record running { ended = running.ended + 1; ended_places = running.ended_places + edge.place }
    else record running { begun = running.begun + 1; begun_places = running.begun_places + edge.place }

abbrev pub running_stretch : Running → (a b : ℕ) → Stretch
running_stretch running a b = record {
  begin = a;
  end = b;
  number = running.begun - running.ended;
  alone = if running.begun - running.ended == 1 then Some (running.begun_places - running.ended_places) else None;
}

-- the stretch up to the next edge, if that comes later than the last one
abbrev pub pushed : Running → (last : Option ℕ) → (time : ℕ) → List Stretch
pushed running None time = []
pushed running (Some at) time = if nat_lt at time then running_stretch running at time ∷ [] else []
