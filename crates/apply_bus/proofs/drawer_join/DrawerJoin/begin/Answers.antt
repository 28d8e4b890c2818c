use Rattle.std.proofs.Common.{arith}
use Rattle.apply_bus.proofs.ClaimsSteps.{enters}
use Rattle.apply_bus.proofs.drawer_join.DrawerJoin.begin.Goals as goal

pub load_new_seat-seat-requires : goal.load_new_seat-seat-requires
load_new_seat-seat-requires c = (omega arith, enters _ _ _)
