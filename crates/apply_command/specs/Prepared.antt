-- What a command reads, prints and applies, as the code holds it.
use Rattle.std.specs.Prelude.{◌≡◌, ℕ, []}
use Rattle.apply_plan_terraform.specs.Outputs.{written_outputs}
use Rattle.apply_planning.specs.Schedule.{IsScheduleOf}
use Rattle.apply_run.specs.ReadStated.{stated_view}
use Rattle.apply_text_terraform.specs.declared.command.Command.{Command}
use Rattle.apply_command.specs.declared.prepared.Prepared.{Prepared}
use Rattle.apply_command.specs.declared.read_command.ReadCommand.{ReadCommand}
use Rattle.apply_command.specs.Lines.{prepared_lines}
use Rattle.apply_command.specs.Reading.{CommandInputs, head_inputs, is_applied, lines, notes}

-- what the code's value of these stands for
abbrev pub command_view : ReadCommand → CommandInputs
command_view read = record {
  stated = stated_view read.stated;
  drifts = read.drifts.items;
  outputs = read.outputs.items;
  told = read.told.items;
}

-- this is what the command prints and applies of these inputs
pub record IsPrepared (command : Command) (lanes : ℕ) (read : CommandInputs) (prepared : Prepared) : Type 0 where
  pub plan : prepared.plan ≡ read.stated.plan
  pub script : prepared.script ≡ read.stated.script
  pub details : prepared.details.items ≡ read.stated.details.changes
  pub drifts : prepared.drifts.items ≡ read.drifts
  pub planned_outputs : prepared.planned_outputs.items ≡ read.outputs
  pub told : prepared.told.items ≡ read.told
  pub totals : prepared.totals ≡ (head_inputs command lanes read 0).totals
  pub took : prepared.took ≡ (head_inputs command lanes read 0).took
  pub scheduled : IsScheduleOf prepared.told.items prepared.schedule
  pub in_lanes : prepared.schedule.lanes ≡ prepared.lanes
  pub lines : prepared_lines prepared ≡ lines command lanes read
  pub applies : prepared.applies ≡ is_applied command lanes read
  pub no_changes : prepared.no_changes ≡ record { version = read.stated.plan.version; changes = [] }
  pub no_script : prepared.no_script ≡ []
  pub notes : prepared.notes.items ≡ notes command lanes read
  pub outputs : prepared.outputs.items ≡ written_outputs read.stated.details.outputs read.stated.extras.outputs
