use Rattle.std.proofs.Common.{codes, refl}
use Rattle.stream_message.proofs.hook_slots.HookSlots.new.Goals as goal

pub returns : goal.returns
returns c = record {
  is = refl;
  holds = record {
    resource = c.new.ensures (codes "addr");
    action = refl;
    seconds = refl;
    provisioner = refl;
  };
}
