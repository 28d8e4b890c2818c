-- The line of a planned change, where a plan is made in the run.
use Rattle.std.specs.Prelude.{ℕ, List, []}
use Rattle.std.specs.Option.{option_map_or}
use Rattle.apply_model.specs.declared.details.change_details.ChangeDetails.{ChangeDetails}
use Rattle.apply_model.specs.Plan.ResourceChange.{ResourceChange}
use Rattle.apply_text_terraform.specs.Lines.{message_line}
use Rattle.apply_text_terraform.specs.Message.{planned_message}
use Rattle.apply_text_planning.specs.Words.{command_word}

-- the line of a planned change; empty where it has none; `seconds` counts from the start of 1970
abbrev pub command_text : (seconds : ℕ) → ResourceChange → ChangeDetails → List ℕ
command_text seconds change details =
    option_map_or (λ word. message_line seconds (planned_message change word details))
    (command_word change.steps details) []
