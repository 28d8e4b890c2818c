use Rattle.std.proofs.Common.{◌∙◌}
use Rattle.serde_json.specs.View.{view}
use Rattle.stream_watch.proofs.Typed.{message_is}
use Rattle.stream_watch.proofs.message.reading.message_in.Goals as goal

pub returns-in-Ok : goal.returns-in-Ok
returns-in-Ok c = c.if_typed.ensures ∙ message_is c.args.text.now (view c.in-Ok.tree) c.in-Ok.ensures.ok.1
