-- A message that borrows its texts, as contracts see it.
use Rattle.std.specs.Option.{option_copied}
use Rattle.stream_check.specs.declared.messages.message.Message as in_tree
use Rattle.stream_check.specs.declared.messages.message.Message.TheVariants as tree
use Rattle.stream_check.specs.Message.{Message, version, step, provision, planned, plan_summary, summary, diagnostic, outputs, other, foreign}

abbrev pub message_view : in_tree.Message → Message
message_view tree.Version = version
message_view (tree.Step address action stage) = step address.now action stage
message_view (tree.Provision address stage) = provision address.now stage
message_view (tree.Planned intent address) = planned intent (option_copied address)
message_view (tree.PlanSummary totals) = plan_summary totals
message_view (tree.Summary totals) = summary totals
message_view (tree.Diagnostic is_error address) = diagnostic is_error (option_copied address)
message_view tree.Outputs = outputs
message_view tree.Other = other
message_view tree.Foreign = foreign
