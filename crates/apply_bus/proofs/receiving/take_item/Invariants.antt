use Rattle.std.proofs.Common.{◌≡◌}
use Rattle.crossbeam_channel.specs.Claims.{view, IsSeatAt}
use Rattle.crossbeam_channel.specs.Ends.{receives_on}
use Rattle.apply_bus.proofs.receiving.take_item.Given as goal

abbrev pub invariant-loop-pauses : goal.invariant-loop-pauses
invariant-loop-pauses g l = record {
  seat : IsSeatAt (receives_on l.end) l.pass;
  same : view l.pass ≡ view l.fn.pass;
}
