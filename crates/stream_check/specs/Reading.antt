-- The answer of a check of a reader.
use Rattle.std.specs.Prelude.{◌≡◌, ◌≢◌, ◌<◌, ◌^◌, ⊤, ℕ, List, None, length, Result, Ok, Err}
use Rattle.stream_check.specs.declared.rules.mode.Mode.{Mode}
use Rattle.stream_check.specs.Lines.{passed_of, verdict_of}
use Rattle.stream_check.specs.Message.{Message}
use Rattle.stream_check.specs.declared.rules.fault.Fault.{Fault}
use Rattle.stream_check.specs.declared.rules.fault.Fault.TheVariants.{Memory, TooLong}
use Rattle.stream_check.specs.declared.verdict.read_fault.ReadFault.{ReadFault}
use Rattle.stream_check.specs.declared.verdict.read_fault.ReadFault.TheVariants as read
use Rattle.stream_check.specs.declared.verdict.whole.Whole.{Whole}
use Rattle.stream_runs.specs.declared.fault.RunFault.{RunFault}
use Rattle.stream_runs.specs.declared.fault.RunFault.TheVariants as run

-- a read failed or memory was refused, so that there is no verdict
abbrev pub IsNoAnswer : ReadFault → Type 0
IsNoAnswer (read.Found finding) = ⊥
IsNoAnswer read.TooMany = ⊥
IsNoAnswer (read.NoRun missing) = ⊥
IsNoAnswer (read.Unread number) = ⊤
IsNoAnswer (read.Uncreated failed) = ⊥
IsNoAnswer read.Unwritten = ⊥
IsNoAnswer read.Memory = ⊤

-- the messages of an input could not be kept, so that it was not checked
abbrev pub IsUnkept : ReadFault → Type 0
IsUnkept (read.Found finding) = ⊥
IsUnkept read.TooMany = ⊥
IsUnkept (read.NoRun missing) = ⊥
IsUnkept (read.Unread number) = ⊤
IsUnkept (read.Uncreated failed) = ⊤
IsUnkept read.Unwritten = ⊤
IsUnkept read.Memory = ⊤

-- the fault of that line, unless memory was refused
abbrev pub IsFaultAt : Mode → (earlier : List Message) → (line : ℕ) → Fault → ReadFault → Type 0
IsFaultAt mode earlier line fault (read.Found finding) =
    (fault ≢ Memory) × (finding ≡ record { line = line; fault = fault; passed = passed_of mode earlier })
IsFaultAt mode earlier line fault read.Memory = fault ≡ Memory
IsFaultAt mode earlier line fault read.TooMany = ⊥
IsFaultAt mode earlier line fault (read.NoRun missing) = ⊥
IsFaultAt mode earlier line fault (read.Unread number) = ⊥
IsFaultAt mode earlier line fault (read.Uncreated failed) = ⊥
IsFaultAt mode earlier line fault read.Unwritten = ⊥

-- The answer is the verdict on the lines, or there are too many lines. A failed read and refused
-- memory give no verdict.
abbrev pub IsAnswer : Mode → List (List ℕ) → Result Whole ReadFault → Type 0
IsAnswer mode texts (Ok whole) = verdict_of mode texts ≡ Ok whole
IsAnswer mode texts (Err (read.Found finding)) = (finding.fault ≢ Memory) × (verdict_of mode texts ≡ Err finding)
IsAnswer mode texts (Err read.TooMany) = 2 ^ 32 < length texts
IsAnswer mode texts (Err (read.NoRun missing)) = ⊥
IsAnswer mode texts (Err (read.Unread number)) = ⊤
IsAnswer mode texts (Err (read.Uncreated failed)) = ⊥
IsAnswer mode texts (Err read.Unwritten) = ⊥
IsAnswer mode texts (Err read.Memory) = ⊤

-- why no run could be judged
abbrev pub unselected : RunFault → ReadFault
unselected (run.Missing missing) = read.NoRun missing
unselected (run.TooLong line) = read.Found (record { line = line; fault = TooLong; passed = None })
unselected run.TooMany = read.TooMany
unselected (run.Unread failed) = read.Unread failed
unselected run.Memory = read.Memory
