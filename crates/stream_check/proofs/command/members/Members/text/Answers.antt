use Rattle.serde_json.specs.Data.{string}
use Rattle.stream_check.proofs.Putting.{puts_made}
use Rattle.stream_check.proofs.command.members.Members.text.Goals as goal

pub returns : goal.returns
returns c =
    puts_made c.try_from_str-value.result c.args.self.now c.made.new.self c.args.name.now (string c.args.text.now)
    c.made.ensures.made c.made.ensures.refused c.try_from_str-value.ensures
