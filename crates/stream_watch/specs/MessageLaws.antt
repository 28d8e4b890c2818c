-- When `check` finds a message in a line.
use Rattle.std.specs.Prelude.{Bool, true, false, Result, Ok, Err}
use Rattle.stream_check.specs.declared.rules.fault.Fault.{Fault}
use Rattle.stream_check.specs.declared.rules.fault.Fault.TheVariants as fault
use Rattle.stream_check.specs.Message.{Message}
use Rattle.stream_check.specs.Tally.{is_foreign}

-- the faults of a line that is no message
abbrev pub is_no_message_fault : Fault → Bool
is_no_message_fault fault.TooLong = true
is_no_message_fault fault.NotJson = true
is_no_message_fault fault.NoType = true
is_no_message_fault _ = false

-- the answer on a line is that it holds no message: a fault, or in a log a line that is ignored
abbrev pub is_no_message : Result Message Fault → Bool
is_no_message (Ok message) = is_foreign message
is_no_message (Err fault) = is_no_message_fault fault
