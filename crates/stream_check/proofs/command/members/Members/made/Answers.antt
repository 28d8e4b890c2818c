use Rattle.std.proofs.Common.{refl}
use Rattle.stream_check.proofs.command.members.Members.made.Goals as goal

pub returns-in-Ok : goal.returns-in-Ok
returns-in-Ok c = record { made = rw (c.in-Ok.is) c.value.ensures; refused = rw (c.in-Ok.is) tt }

pub returns-in-Err : goal.returns-in-Err
returns-in-Err c = record { made = rw (c.in-Err.is) tt; refused = rw (c.in-Err.is) refl }
