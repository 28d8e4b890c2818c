use Rattle.stream_check.specs.ReportObject.{entries_array}
use Rattle.stream_check.proofs.Putting.{puts_made}
use Rattle.stream_check.proofs.command.objects.put_entries.Goals as goal

pub returns : goal.returns
returns c =
    puts_made c.entries_array-value.result c.args.members.now c.made.new.self c.args.name.now (entries_array c.args.lines_before c.args.entries.now)
    c.made.ensures.made c.made.ensures.refused c.entries_array-value.ensures
