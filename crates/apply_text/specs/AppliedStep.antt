-- A step of a change with its outcome in the script, as private clauses see it.
use Rattle.std.specs.Prelude.{unwrap_or}
use Rattle.std.specs.Option.{option_copied}
use Rattle.apply_model.specs.declared.script.diag.Diag.{Diag}
use Rattle.apply_model.specs.declared.script.ending.Ending.{Ending}
use Rattle.apply_model.specs.declared.script.outcome.Outcome.{Outcome}
use Rattle.apply_model.specs.Script.Outcome.{default_outcome}
use Rattle.apply_events.specs.declared.what.What.{What}
use Rattle.apply_text.specs.declared.applied_step.AppliedStep.{AppliedStep}
use Rattle.apply_text.specs.declared.applied_step.DiagTexts.{DiagTexts}
use Rattle.apply_text.specs.Message.{Message, event_message}

-- the outcome that the script gives; where it gives none, the step succeeds
abbrev pub outcome_view : AppliedStep → Outcome
outcome_view step = unwrap_or (option_copied step.outcome) default_outcome

-- how the provider ends the step
abbrev pub ending_view : AppliedStep → Ending
ending_view step = (outcome_view step).result

abbrev pub diag_view : DiagTexts → Diag
diag_view texts = record {
  summary = texts.summary.now;
  detail = texts.detail.now;
  range = option_copied texts.range;
  snippet = option_copied texts.snippet;
}

-- the message of an event of the step
abbrev pub message_of : AppliedStep → What → Message
message_of step what = event_message step.change.now step.kind (outcome_view step) what
