-- When the lines of a planning come.
use Rattle.std.specs.Prelude.{ℕ, nat_le, Bool, true}
use Rattle.apply_command.specs.declared.head_line.HeadLine.{HeadLine}
use Rattle.apply_command.specs.declared.head_line.HeadLine.TheVariants as line

-- the longest planning, in seconds: 9,999 objects of at most a day each
abbrev pub max_took : ℕ
max_took = 864000000

-- an event of the planning is in time
abbrev pub is_in_time : HeadLine → Bool
is_in_time line.Version = true
is_in_time (line.Planning event) = nat_le event.at max_took
is_in_time (line.Drift number) = true
is_in_time (line.Planned number) = true
is_in_time line.Summary = true
is_in_time line.Outputs = true
