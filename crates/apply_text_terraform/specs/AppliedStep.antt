-- A step of a change with its outcome in the script, as private clauses see it.
use Rattle.std.specs.Prelude.{ℕ, List, Option}
use Rattle.apply_events.specs.declared.what.What.{What}
use Rattle.apply_text.specs.declared.applied_step.AppliedStep.{AppliedStep}
use Rattle.apply_text.specs.AppliedStep.{outcome_view}
use Rattle.apply_text.specs.Message.{Message}
use Rattle.apply_text_terraform.specs.Lines.{event_line}
use Rattle.apply_text_terraform.specs.Message.{event_message}

-- the message of an event of the step; `planned` is the id that the plan gives
abbrev pub message_of : AppliedStep → (planned : Option (List ℕ)) → What → Message
message_of step planned what = event_message step.change.now step.kind (outcome_view step) planned what

-- the line of an event of the step; `seconds` counts from the start of 1970
abbrev pub line_of_event : (seconds : ℕ) → AppliedStep → (planned : Option (List ℕ)) → What → List ℕ
line_of_event seconds step planned what = event_line seconds step.change.now step.kind (outcome_view step) planned what
