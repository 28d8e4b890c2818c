use Rattle.stream_check.specs.Objects.{totals_object}
use Rattle.stream_check.proofs.Putting.{puts_made}
use Rattle.stream_check.proofs.command.objects.put_totals.Goals as goal

pub returns : goal.returns
returns c =
    puts_made c.totals_object-value.result c.args.members.now c.made.new.self c.args.name.now (totals_object c.args.totals)
    c.made.ensures.made c.made.ensures.refused c.totals_object-value.ensures
