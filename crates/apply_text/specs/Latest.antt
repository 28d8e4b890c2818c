-- The clock of a stream: the greatest time of an event so far. With it, timestamps never go back.
use Rattle.std.specs.Prelude.{ℕ, List, max, fold, map, take}
use Rattle.apply_events.specs.declared.event.Event.{Event}

-- the greatest time among the first i events of a list; 0 where i is 0
abbrev pub latest_of : List Event → ℕ → ℕ
latest_of events i = fold max 0 (map (λ (event : Event). event.at) (take i events))
