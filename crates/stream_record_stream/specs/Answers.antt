-- The answers of the functions that read a stream.
use Rattle.std.specs.Prelude.{◌≡◌, ◌+◌, ◌<◌, ◌⊎◌, ⊤, ℕ, List, length, Bool, Result, Ok, Err}
use Rattle.apply_model.specs.Plan.SavedPlan.{SavedPlan}
use Rattle.stream_lines.specs.Cut.{cut_lines}
use Rattle.stream_record_stream.specs.Reading.{Known, read_of}
use Rattle.stream_record_stream.specs.Streams.{StreamRead}
use Rattle.stream_record_stream.specs.declared.stream_fault.StreamFault.{StreamFault}
use Rattle.stream_record_stream.specs.declared.stream_fault.StreamFault.TheVariants as fault
use Rattle.stream_record_stream.specs.declared.unread_line.UnreadLine.{UnreadLine}
use Rattle.stream_record_stream.specs.declared.unread_line.UnreadLine.TheVariants as why

-- the greatest number of lines
abbrev pub max_lines : ℕ
max_lines = 4294967296

-- a read failed or memory was refused
abbrev pub IsUnanswered : StreamFault → Type 0
IsUnanswered (fault.VersionAgain line first runs) = ⊥
IsUnanswered (fault.NoMessage is_log) = ⊥
IsUnanswered fault.NoStepOfPlan = ⊥
IsUnanswered (fault.TooLong line) = ⊥
IsUnanswered fault.TooMany = ⊥
IsUnanswered (fault.Unread failed) = ⊤
IsUnanswered fault.Memory = ⊤

-- What these bytes state, after so many lines of the input, or why they are refused. A failed read
-- and refused memory are left open.
abbrev pub IsReadOf : SavedPlan → (find : Bool) → (before : ℕ) → (bytes : List ℕ) → Result StreamRead StreamFault → Type 0
IsReadOf plan find before bytes (Ok stream) = read_of plan find before (cut_lines bytes) ≡ Ok stream
IsReadOf plan find before bytes (Err (fault.VersionAgain line first runs)) =
    read_of plan find before (cut_lines bytes) ≡ Err (fault.VersionAgain line first runs)
IsReadOf plan find before bytes (Err (fault.NoMessage is_log)) =
    read_of plan find before (cut_lines bytes) ≡ Err (fault.NoMessage is_log)
IsReadOf plan find before bytes (Err fault.NoStepOfPlan) = read_of plan find before (cut_lines bytes) ≡ Err fault.NoStepOfPlan
IsReadOf plan find before bytes (Err (fault.TooLong line)) = read_of plan find before (cut_lines bytes) ≡ Err (fault.TooLong line)
IsReadOf plan find before bytes (Err fault.TooMany) = max_lines < before + length (cut_lines bytes)
IsReadOf plan find before bytes (Err (fault.Unread failed)) = ⊤
IsReadOf plan find before bytes (Err fault.Memory) = ⊤

-- ---- for private clauses

-- What a line makes of what is known, or the line whose version it repeats. Refused memory is left
-- open.
abbrev pub IsTaken : Result Known ℕ → (new : Known) → Result (Unit {0}) UnreadLine → Type 0
IsTaken known new (Ok done) = known ≡ Ok new
IsTaken known new (Err (why.VersionAgain first)) = known ≡ Err first
IsTaken known new (Err why.Memory) = ⊤

-- That fault, unless a read failed or memory was refused.
abbrev pub IsFault : (expected given : StreamFault) → Type 0
IsFault expected given = (given ≡ expected) ⊎ IsUnanswered given
