-- What the selection of a run gives.
use Rattle.std.specs.Prelude.{◌≡◌, ◌<◌, ◌≤◌, ⊤, ℕ, Bool, List, length, max, Result, Ok, Err}
use Rattle.stream_lines.specs.Cut.{cut_lines, line_at}
use Rattle.stream_lines.specs.Limits.{max_bytes}
use Rattle.stream_runs.specs.Collected.{Lines, run_of}
use Rattle.stream_runs.specs.declared.choice.RunChoice.{RunChoice}
use Rattle.stream_runs.specs.declared.choice.RunChoice.TheVariants.{Last, Number}
use Rattle.stream_runs.specs.declared.fault.RunFault.{RunFault}
use Rattle.stream_runs.specs.declared.fault.RunFault.TheVariants as fault
use Rattle.stream_runs.specs.declared.selecting.Run.{Run}

-- a read failed or memory was refused
abbrev pub IsNoRun : RunFault → Type 0
IsNoRun (fault.Missing missing) = ⊥
IsNoRun (fault.TooLong line) = ⊥
IsNoRun fault.TooMany = ⊥
IsNoRun (fault.Unread failed) = ⊤
IsNoRun fault.Memory = ⊤

-- there are as many runs as the choice needs
abbrev pub IsThere : RunChoice → (begun : ℕ) → Type 0
IsThere Last begun = ⊤
IsThere (Number n) begun = n ≤ max begun 1

-- the chosen run of these lines, or how many runs there are where it is missing
abbrev pub IsRunOf : RunChoice → Lines → Result Run RunFault → Type 0
IsRunOf choice lines (Ok run) =
    (run.bytes.items ≡ lines.bytes) × (run.lines_before ≡ lines.before) × IsThere choice lines.begun
IsRunOf choice lines (Err (fault.Missing missing)) =
    (choice ≡ Number missing.number) × (missing.runs ≡ max lines.begun 1) × (missing.runs < missing.number)
IsRunOf choice lines (Err (fault.TooLong line)) = ⊥
IsRunOf choice lines (Err fault.TooMany) = ⊥
IsRunOf choice lines (Err (fault.Unread failed)) = ⊥
IsRunOf choice lines (Err fault.Memory) = ⊥

-- the chosen run of these bytes, or why there is none
abbrev pub IsSelected : Bool → RunChoice → List ℕ → Result Run RunFault → Type 0
IsSelected find choice bytes (Ok run) = IsRunOf choice (run_of find choice bytes) (Ok run)
IsSelected find choice bytes (Err (fault.Missing missing)) =
    IsRunOf choice (run_of find choice bytes) (Err (fault.Missing missing))
IsSelected find choice bytes (Err (fault.TooLong line)) = max_bytes < length (line_at line bytes)
IsSelected find choice bytes (Err fault.TooMany) = 4294967297 ≤ length (cut_lines bytes)
IsSelected find choice bytes (Err (fault.Unread failed)) = ⊤
IsSelected find choice bytes (Err fault.Memory) = ⊤

-- the input was read to its end
abbrev pub HasEnded : Result Run RunFault → Type 0
HasEnded (Ok run) = ⊤
HasEnded (Err (fault.Missing missing)) = ⊤
HasEnded (Err (fault.TooLong line)) = ⊥
HasEnded (Err fault.TooMany) = ⊥
HasEnded (Err (fault.Unread failed)) = ⊥
HasEnded (Err fault.Memory) = ⊥
