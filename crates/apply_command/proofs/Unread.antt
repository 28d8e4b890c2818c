-- Inputs that a command does not read.
use Rattle.std.proofs.Common.{ℕ, refl}
use Rattle.apply_text.specs.declared.operation.Operation.{Operation}
use Rattle.apply_text_terraform.specs.declared.command.Command.{Command}
use Rattle.std.specs.Prelude.{Bool}
use Rattle.apply_run.specs.Bytes.{Inputs}
use Rattle.apply_run.specs.FromBytes.{WasRefusedOf}
use Rattle.apply_run.specs.Run.{SinkState}
use Rattle.apply_run.specs.Schedule.{Schedule}
use Rattle.apply_run.specs.declared.refusal.Refusal.{Refusal}
use Rattle.apply_run.specs.declared.refusal.Refusal.TheVariants.{Plan, Script, Waits, Size, Fault}
use Rattle.apply_command.specs.Reading.{AreUnstated, planned_reading}

-- inputs that were not read are refused
pub unread : (schedule : Schedule) (command : Command) (refresh : Bool) (lanes : ℕ) (given : Inputs) (start : ℕ) (operation : Operation) (refusal : Refusal) (state : SinkState)
    → AreUnstated command refresh given refusal → WasRefusedOf schedule (planned_reading command refresh lanes) given start operation refusal state state
unread schedule command refresh lanes given start operation (Plan refusal) state is = (is, refl)
unread schedule command refresh lanes given start operation (Script refusal) state is = (is, refl)
unread schedule command refresh lanes given start operation Waits state is = absurd is
unread schedule command refresh lanes given start operation Size state is = absurd is
unread schedule command refresh lanes given start operation (Fault fault) state is = absurd is
