-- What is known of a stream, line by line, up to its end.
use Rattle.std.specs.Prelude.{ℕ, ◌+◌, ◌==◌, List, [], ◌∷◌, length, min, nat_lt, Bool, ◌&&◌, ◌||◌, true, false, not, if◌then◌else◌, Option, Some, None, is_some, Result, Ok, Err}
use Rattle.std.specs.Option.{option_map_or}
use Rattle.apply_model.specs.Plan.SavedPlan.{SavedPlan}
use Rattle.stream_lines.specs.Limits.{max_bytes}
use Rattle.stream_message.specs.Located.{from_mark}
use Rattle.stream_record_lines.specs.Lines.{stated_line}
use Rattle.stream_record_lines.specs.declared.event.Event.{Event}
use Rattle.stream_record_lines.specs.declared.event.Event.TheVariants.{Version}
use Rattle.stream_record_lines.specs.declared.stated_line.StatedLine.{StatedLine}
use Rattle.stream_record_lines.specs.declared.stated_line.StatedLine.TheVariants.{Foreign, NoMessage, Message}
use Rattle.stream_record_lines.specs.declared.stated_message.StatedMessage.{StatedMessage}
use Rattle.stream_record_steps.specs.Begun.{Begun}
use Rattle.stream_record_steps.specs.Tallies as tallies
use Rattle.stream_runs.specs.Counted.{runs_in}
use Rattle.stream_record_stream.specs.Streams.{StreamRead, after_message, no_stream}
use Rattle.stream_record_stream.specs.declared.stream_fault.StreamFault.{StreamFault}
use Rattle.stream_record_stream.specs.declared.stream_fault.StreamFault.TheVariants as fault

-- what is known of a stream after some of its lines
pub record Known : Type 0 where
  pub stream : StreamRead
  -- the line of the version
  pub version : Option ℕ
  -- one of the lines is a message
  pub has_message : Bool
  -- the start of a message stands in one of the lines
  pub has_mark : Bool

-- before the first line
abbrev pub nothing_known : SavedPlan → Known
nothing_known plan = record { stream = no_stream plan; version = None; has_message = false; has_mark = false }

-- ---- one line

-- the event is a version
abbrev pub is_version : Event → Bool
is_version (Version ui) = true
is_version _ = false

-- a message on this line
abbrev pub with_message : SavedPlan → (line : ℕ) → StatedMessage → Known → Known
with_message plan line message known = record known {
  stream = after_message plan line message known.stream;
  version = if is_version message.event then Some line else known.version;
  has_message = true;
}

-- the line of the version that a message repeats
abbrev pub repeated : StatedMessage → Known → Option ℕ
repeated message known = if is_version message.event then known.version else None

-- What a line of this number makes of what is known. `Err` if it repeats the version of another
-- line: the number of that line.
abbrev pub with_stated : SavedPlan → (number : ℕ) → StatedLine → Known → Result Known ℕ
with_stated plan number Foreign known = Ok known
with_stated plan number NoMessage known =
    Ok (record known { stream = record known.stream { no_message = tallies.with_line number known.stream.no_message } })
with_stated plan number (Message message) known =
    option_map_or Err (repeated message known) (Ok (with_message plan number message known))

-- the start of a message stands in the line, or in one before
abbrev pub with_mark : (line : List ℕ) → Known → Known
with_mark line known = record known { has_mark = known.has_mark || is_some (from_mark line) }

abbrev pub with_line : SavedPlan → (find : Bool) → (number : ℕ) → (line : List ℕ) → Known → Result Known ℕ
with_line plan find number line known = with_stated plan number (stated_line find line) (with_mark line known)

-- ---- the whole stream

-- no step of the plan began, but others did
abbrev pub is_of_another_plan : Begun → Bool
is_of_another_plan begun = begun.has_starts && length begun.begins == 0

-- what a stream states, all of whose lines are known; or why it is refused
abbrev pub at_end : (find : Bool) → Known → Result StreamRead StreamFault
at_end find known =
    if not known.has_message then Err (fault.NoMessage (not find && known.has_mark))
    else if is_of_another_plan known.stream.begun then Err fault.NoStepOfPlan
    else Ok known.stream

-- How many runs an input has, the second of which began before these lines. The number stays one of
-- 64 bits.
abbrev pub runs_with : (find : Bool) → (later : List (List ℕ)) → ℕ
runs_with find later = min (runs_in find later + 2) 18446744073709551615

-- a line repeats the version of the line `first`, before these lines
abbrev pub version_again : (find : Bool) → (line first : ℕ) → (later : List (List ℕ)) → StreamFault
version_again find line first later = fault.VersionAgain line first (runs_with find later)

-- what is made of a value, or of an error
abbrev pub either : {T E A : Type 0} → Result T E → (T → A) → (E → A) → A
either (Ok value) on_value on_error = on_value value
either (Err error) on_value on_error = on_error error

-- What a stream states, of which this is known and these lines are left, the first of which has this
-- number; or why it is refused.
abbrev pub read_after : SavedPlan → (find : Bool) → (number : ℕ) → Known → (lines : List (List ℕ)) → Result StreamRead StreamFault
read_after plan find number known [] = at_end find known
read_after plan find number known (line ∷ lines) =
    if nat_lt max_bytes (length line) then Err (fault.TooLong number)
    else either (with_line plan find number line known)
    (λ more. read_after plan find (number + 1) more lines)
    (λ first. Err (version_again find number first lines))

-- What the lines of a stream state, after so many lines of the input; or why they are refused.
abbrev pub read_of : SavedPlan → (find : Bool) → (before : ℕ) → (lines : List (List ℕ)) → Result StreamRead StreamFault
read_of plan find before lines = read_after plan find (before + 1) (nothing_known plan) lines
