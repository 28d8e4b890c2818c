-- The events that a stream shows as diagnostics.
use Rattle.std.specs.Prelude.{Bool, true, false}
use Rattle.apply_events.specs.declared.what.What.{What}
use Rattle.apply_events.specs.declared.what.What.TheVariants.{ErrorNote, WarnNote, Halted}

-- The event is an error, a warning or a halt. Terraform shows these as diagnostics, and all other
-- events as hook messages.
abbrev pub is_note : What → Bool
is_note ErrorNote = true
is_note WarnNote = true
is_note (Halted phase hook) = true
is_note _ = false
