-- The error or the warning after the end of a step, for a private type.
use Rattle.std.specs.Prelude.{Bool, if◌then◌else◌}
use Rattle.apply_events.specs.declared.what.What.{What}
use Rattle.apply_events.specs.declared.what.What.TheVariants.{ErrorNote, WarnNote}

-- The error of a step that fails, or the warning of a step that does not.
abbrev pub note_of : (fails : Bool) → What
note_of fails = if fails then ErrorNote else WarnNote
