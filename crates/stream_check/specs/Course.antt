-- The course of one step: an action on the object of an address.
use Rattle.std.specs.Prelude.{ℕ, ◌+◌, ◌-◌, Bool, true, false, nat_lt, if◌then◌else◌, Option, Some, None, Result, Ok, Err}
use Rattle.stream_check.specs.declared.messages.action.Action.{Action}
use Rattle.stream_check.specs.declared.messages.action.Action.TheVariants.{Create, Update, Delete, Read, Refresh}
use Rattle.stream_check.specs.declared.rules.fault.Fault.{Fault}
use Rattle.stream_check.specs.declared.rules.fault.Fault.TheVariants.{StartsAgain, TooMany, NotOpen, NotLater}
use Rattle.stream_check.specs.declared.rules.pending.Pending.{Pending}
use Rattle.stream_check.specs.declared.rules.pending.Pending.TheVariants.{One, Several}
use Rattle.stream_check.specs.declared.messages.timed_stage.TimedStage.{TimedStage}
use Rattle.stream_check.specs.declared.messages.timed_stage.TimedStage.TheVariants.{Start, Progress, Complete, Errored}

-- the line on which the step started
abbrev pub start_line_of : Pending → ℕ
start_line_of (One start_line last_seconds since) = start_line
start_line_of (Several start_line count) = start_line

-- Deletes of one address may overlap, and so may refreshes: an object and a deposed one share an
-- address, and messages do not distinguish them. A read may start again, because Terraform writes
-- no end of a failed read.
abbrev pub may_overlap : Action → Bool
may_overlap Create = false
may_overlap Update = false
may_overlap Delete = true
may_overlap Read = true
may_overlap Refresh = true

-- how many steps may overlap
abbrev pub max_overlap : ℕ
max_overlap = 10000

-- a start of the action on that line, with 0 seconds
abbrev pub begun : Action → (line : ℕ) → Option Pending → Result (Option Pending) Fault
begun action line None = Ok (Some (One line 0 line))
begun action line (Some (One start_line last_seconds since)) =
    if may_overlap action then Ok (Some (Several start_line 2)) else Err (StartsAgain start_line)
begun action line (Some (Several start_line count)) =
    if nat_lt count max_overlap then Ok (Some (Several start_line (count + 1))) else Err (TooMany start_line)

-- a progress on that line, whose seconds must rise
abbrev pub progressed : (seconds line : ℕ) → Option Pending → Result (Option Pending) Fault
progressed seconds line None = Err NotOpen
progressed seconds line (Some (One start_line last_seconds since)) =
    if nat_lt last_seconds seconds then Ok (Some (One start_line seconds line)) else Err (NotLater since)
progressed seconds line (Some (Several start_line count)) = Ok (Some (Several start_line count))

-- an end, whose seconds may not fall; seconds of overlapping steps are not compared until none is
-- open
abbrev pub ended : (seconds : ℕ) → Option Pending → Result (Option Pending) Fault
ended seconds None = Err NotOpen
ended seconds (Some (One start_line last_seconds since)) = if nat_lt seconds last_seconds then Err (NotLater since) else Ok None
ended seconds (Some (Several start_line count)) = if nat_lt 1 count then Ok (Some (Several start_line (count - 1))) else Ok None

-- the open steps after a message on that line, or its fault
abbrev pub after : Action → TimedStage → (line : ℕ) → Option Pending → Result (Option Pending) Fault
after action Start line pending = begun action line pending
after action (Progress seconds) line pending = progressed seconds line pending
after action (Complete seconds) line pending = ended seconds pending
after action (Errored seconds) line pending = ended seconds pending
