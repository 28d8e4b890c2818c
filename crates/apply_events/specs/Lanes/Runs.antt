-- Events whose times never fall.
use Rattle.std.specs.Prelude.{◌≡◌, ℕ, ◌≤◌, List, [], ◌∷◌}
use Rattle.apply_events.specs.declared.event.Event.{Event}

-- Events of the lane from second `low` to second `high`, whose times never fall.
abbrev pub Runs : (lane low high : ℕ) → List Event → Type 0
Runs lane low high [] = low ≤ high
Runs lane low high (e ∷ es) = (e.worker ≡ lane) × (low ≤ e.at) × Runs lane e.at high es
