use Rattle.std.proofs.Common.{◌∙◌}
use Rattle.stream_message.proofs.TreeMembers.{text_time_is}
use Rattle.stream_play.proofs.timestamp.timestamp_of.Goals as goal

pub returns-in-Ok : goal.returns-in-Ok
returns-in-Ok c = c.time.ensures ∙ text_time_is c.in-Ok.head c.args.line.now c.in-Ok.ensures.ok
