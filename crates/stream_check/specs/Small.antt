-- No count exceeds the number of lines, for private clauses.
use Rattle.std.specs.Prelude.{◌<◌, ◌≤◌, ◌^◌}
use Rattle.stream_check.specs.declared.rules.tally.Tally.{Tally}

abbrev pub IsSmall : Tally → Type 0
IsSmall t =
    (t.lines < 2 ^ 33) × (t.completed.added ≤ t.lines) × (t.completed.changed ≤ t.lines) × (t.completed.removed ≤ t.lines)
    × (t.begun.added ≤ t.lines) × (t.begun.changed ≤ t.lines) × (t.begun.removed ≤ t.lines)
    × (t.planned.added ≤ t.lines) × (t.planned.changed ≤ t.lines) × (t.planned.removed ≤ t.lines)
    × (t.errors_without_address ≤ t.lines) × (t.failures ≤ t.lines) × (t.foreign ≤ t.lines)
