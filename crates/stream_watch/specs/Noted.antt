-- How long steps took is kept as they end.
use Rattle.std.specs.Prelude.{ℤ, Bool, find}
use Rattle.std.specs.Int.{int_gap}
use Rattle.std.specs.Option.{option_map_or}
use Rattle.stream_watch.specs.Lengths.{with_length}
use Rattle.stream_watch.specs.State.{State}
use Rattle.stream_watch.specs.Steps.{Step}

-- the state in which the time of this step is kept
abbrev pub with_length_of : (moment : ℤ) → State → Step → State
with_length_of moment state step =
    record state { lengths = with_length step.action step.kind (int_gap step.begin moment) state.lengths }

-- the time of the first step of which this holds is kept, where one is open
abbrev pub with_noted : (Step → Bool) → (moment : ℤ) → State → State
with_noted holds moment state = option_map_or (with_length_of moment state) (find holds state.steps) state
