use Rattle.std.proofs.Common.{◌≡◌, Option, subst}
use Rattle.std.specs.Prelude.{IfOk}
use Rattle.serde_json.specs.View.{view}
use Rattle.stream_record_lines.specs.declared.stated_message.StatedMessage.{StatedMessage}
use Rattle.stream_record_lines.proofs.Trimmed.{message_is}
use Rattle.stream_record_lines.proofs.stated_message.read_message.Goals as goal

pub returns-in-Ok : goal.returns-in-Ok
returns-in-Ok c =
    subst (λ (message : Option StatedMessage). IfOk c.message_of.result (λ found. found ≡ message))
    (message_is c.args.text.now (view c.in-Ok.tree) c.in-Ok.ensures.ok.1) c.message_of.ensures
