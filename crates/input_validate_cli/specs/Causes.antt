-- Why findings were not written.
use Rattle.std.specs.Prelude.{⊤, ℕ, Option, IsSome}
use Rattle.stream_tool.specs.declared.writing.WriteFault.{WriteFault}
use Rattle.stream_tool.specs.declared.writing.WriteFault.TheVariants as write
use Rattle.input_validate_cli.specs.declared.command.validate_fault.ValidateFault.{ValidateFault}
use Rattle.input_validate_cli.specs.declared.command.validate_fault.ValidateFault.TheVariants as fault

-- a write or a flush failed
abbrev pub as_validate_fault : WriteFault → ValidateFault
as_validate_fault write.Gone = fault.Gone
as_validate_fault write.Unwritten = fault.Unwritten

-- An input was not read: the plan, the script that the settings name, or any of them for want of
-- memory.
abbrev pub IsReadFault : {A : Type 0} → (script : Option A) → ValidateFault → Type 0
IsReadFault script (fault.Plan failed) = ⊤
IsReadFault script (fault.Unopened error) = IsSome script
IsReadFault script (fault.Script failed) = IsSome script
IsReadFault script fault.Memory = ⊤
IsReadFault script fault.Gone = ⊥
IsReadFault script fault.Unwritten = ⊥

-- the exit status for this cause
abbrev pub fault_status_of : ValidateFault → ℕ
fault_status_of (fault.Plan failed) = 2
fault_status_of (fault.Unopened error) = 2
fault_status_of (fault.Script failed) = 2
fault_status_of fault.Memory = 3
fault_status_of fault.Gone = 3
fault_status_of fault.Unwritten = 3

-- the report of this cause takes memory, for the name of the script's file
abbrev pub TakesMemory : ValidateFault → Type 0
TakesMemory (fault.Plan failed) = ⊥
TakesMemory (fault.Unopened error) = ⊤
TakesMemory (fault.Script failed) = ⊤
TakesMemory fault.Memory = ⊥
TakesMemory fault.Gone = ⊥
TakesMemory fault.Unwritten = ⊥
