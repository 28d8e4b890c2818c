-- The stream of a command.
use Rattle.std.specs.Prelude.{◌+◌, List, Bool, flat_map, if◌then◌else◌}
use Rattle.apply_model.specs.Plan.SavedPlan.{SavedPlan}
use Rattle.apply_model.specs.Script.OutcomeMap.{OutcomeMap}
use Rattle.apply_text.specs.declared.operation.Operation.{Operation}
use Rattle.apply_text_terraform.specs.Lines.{note_text}
use Rattle.apply_command.specs.declared.head_line.HeadLine.{HeadLine}
use Rattle.apply_command.specs.Head.{HeadInputs, head_text}
use Rattle.apply_writer.specs.Stream.Form.{StreamForm}
use Rattle.apply_writer.specs.Stream.Terraform.{StreamExtras, terraform_form}

-- the head, then what a saved plan's stream has behind its planned changes, where it is applied as
-- soon as the planning has ended
abbrev pub command_form : HeadInputs → List HeadLine → (applies : Bool) → (applied : SavedPlan) → OutcomeMap → StreamExtras → Operation → StreamForm
command_form inputs lines applies applied script extras operation =
    let saved = terraform_form applied script extras (inputs.start + inputs.took) operation in record {
      plan = applied;
      head = head_text inputs lines;
      line = saved.line;
      tail = λ latest counts. if applies then saved.tail latest counts else flat_map (note_text (inputs.start + inputs.took) latest) extras.notes;
    }
