use Rattle.std.proofs.Common.{codes}
use Rattle.serde_json.specs.Data.{no_members}
use Rattle.stream_check.specs.Objects.{with_number}
use Rattle.stream_check.proofs.Putting.{puts_all}
use Rattle.stream_check.proofs.command.objects.totals_object.Goals as goal

pub returns : goal.returns
returns c =
    let t = c.args.totals in
    let added = puts_all c.new-members.result c.number.new.self (with_number (codes "add") t.added) no_members c.new-members.ensures c.number.ensures in
    let changed = puts_all c.number.new.self c.number-2.new.self (with_number (codes "change") t.changed) (with_number (codes "add") t.added no_members) added c.number-2.ensures in
    let removed = puts_all c.number-2.new.self c.number-3.new.self (with_number (codes "remove") t.removed) (with_number (codes "change") t.changed (with_number (codes "add") t.added no_members)) changed c.number-3.ensures in
    c.object.ensures (with_number (codes "remove") t.removed (with_number (codes "change") t.changed (with_number (codes "add") t.added no_members))) removed
