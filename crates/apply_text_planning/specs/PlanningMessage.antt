-- A message with the values that it borrows.
use Rattle.std.specs.Option.{option_copied}
use Rattle.apply_text.specs.Message.{Message}
use Rattle.apply_text_terraform.specs.Message.{planned_message}
use Rattle.apply_text_planning.specs.declared.planning_message.PlanningMessage.{PlanningMessage}
use Rattle.apply_text_planning.specs.declared.planning_message.PlanningMessage.TheVariants.{RefreshStart, RefreshComplete, ReadStart, ReadProgress, ReadComplete, Drift, Planned, Summary, Outputs}
use Rattle.apply_text_planning.specs.Message.{drift_message, plan_outputs_message, plan_summary_message, read_complete_message, read_progress_message, read_start_message, refresh_complete_message, refresh_start_message}

-- what the message says
abbrev pub message_of : PlanningMessage → Message
message_of (RefreshStart change id) = refresh_start_message change.now (option_copied id)
message_of (RefreshComplete change id) = refresh_complete_message change.now (option_copied id)
message_of (ReadStart change) = read_start_message change.now
message_of (ReadProgress change seconds) = read_progress_message change.now seconds
message_of (ReadComplete change seconds id) = read_complete_message change.now seconds (option_copied id)
message_of (Drift change details) = drift_message change.now details.now
message_of (Planned change word details) = planned_message change.now word.now details.now
message_of (Summary totals) = plan_summary_message totals
message_of (Outputs outputs) = plan_outputs_message outputs.now
