-- What is read of a stream, or of the run of it that is chosen.
use Rattle.std.specs.Prelude.{◌≡◌, ◌⊎◌, ⊤, ℕ, List, Bool, Option, None, Some, Ok, Err}
use Rattle.apply_model.specs.Plan.SavedPlan.{SavedPlan}
use Rattle.stream_record_stream.specs.Answers.{IsReadOf}
use Rattle.stream_record_stream.specs.Streams.{StreamRead}
use Rattle.stream_record_stream.specs.declared.stream_fault.StreamFault.{StreamFault}
use Rattle.stream_runs.specs.Selected.{IsSelected}
use Rattle.stream_runs.specs.declared.choice.RunChoice.{RunChoice}
use Rattle.stream_runs.specs.declared.fault.RunFault.{RunFault}
use Rattle.stream_runs.specs.declared.selecting.Run.{Run}
use Rattle.stream_record_cli.specs.Causes.{of_run_fault, of_stream_fault}
use Rattle.stream_record_cli.specs.declared.record_fault.RecordFault.{RecordFault}
use Rattle.stream_record_cli.specs.declared.record_fault.RecordFault.TheVariants as fault

-- What the bytes state, or the chosen run in them.
abbrev pub IsRead : SavedPlan → (find : Bool) → Option RunChoice → (bytes : List ℕ) → StreamRead → Type 0
IsRead plan find None bytes stream = IsReadOf plan find 0 bytes (Ok stream)
IsRead plan find (Some choice) bytes stream =
    (run : Run) × IsSelected find choice bytes (Ok run) × IsReadOf plan find run.lines_before run.bytes.items (Ok stream)

-- They are refused for this cause, after so many lines.
abbrev pub IsFaulty : SavedPlan → (find : Bool) → (before : ℕ) → (bytes : List ℕ) → RecordFault → Type 0
IsFaulty plan find before bytes why = (given : StreamFault) × IsReadOf plan find before bytes (Err given) × (why ≡ of_stream_fault given)

-- The chosen run is not there, or is refused.
abbrev pub IsRunUnread : SavedPlan → (find : Bool) → RunChoice → (bytes : List ℕ) → RecordFault → Type 0
IsRunUnread plan find choice bytes why =
    ((given : RunFault) × IsSelected find choice bytes (Err given) × (why ≡ of_run_fault given))
    ⊎ ((run : Run) × IsSelected find choice bytes (Ok run) × IsFaulty plan find run.lines_before run.bytes.items why)

-- Why nothing is read.
abbrev pub IsUnread : SavedPlan → (find : Bool) → Option RunChoice → (bytes : List ℕ) → RecordFault → Type 0
IsUnread plan find None bytes why = IsFaulty plan find 0 bytes why
IsUnread plan find (Some choice) bytes why = IsRunUnread plan find choice bytes why

-- For such causes nothing is read of a stream.
abbrev pub IsReadCause : RecordFault → Type 0
IsReadCause (fault.Input why) = ⊥
IsReadCause (fault.Plan why) = ⊥
IsReadCause (fault.Graph why) = ⊥
IsReadCause (fault.Stream why) = ⊤
IsReadCause (fault.NoRun missing) = ⊤
IsReadCause fault.TooLarge = ⊥
IsReadCause fault.Memory = ⊤
IsReadCause fault.Gone = ⊥
IsReadCause fault.Unwritten = ⊥
