use Rattle.std.proofs.Common.{codes, refl}
use Rattle.stream_message.proofs.range_slots.RangeSlots.new.Goals as goal

pub returns : goal.returns
returns c = record { filename = refl; start = c.new.ensures (codes "line") }
