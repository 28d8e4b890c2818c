-- Lines that have something in common.
use Rattle.std.specs.Prelude.{ℕ, ◌+◌, ◌-◌, ◌^◌, min, Some, None}
use Rattle.std.specs.Option.{option_or}
use Rattle.stream_record_steps.specs.declared.tally.Tally.{Tally}

-- No lines.
abbrev pub no_lines : Tally
no_lines = record { first = None; count = 0 }

-- One line more. The number of lines stays where a number of 64 bits ends.
abbrev pub with_line : (line : ℕ) → Tally → Tally
with_line line tally = record { first = option_or tally.first (Some line); count = min (tally.count + 1) (2 ^ 64 - 1) }
