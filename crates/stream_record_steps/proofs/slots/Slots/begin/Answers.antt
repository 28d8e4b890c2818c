use Rattle.std.proofs.Common.{Some, arith}
use Rattle.stream_record_steps.proofs.Busy.{busy_changed, busy_within}
use Rattle.stream_record_steps.proofs.slots.Slots.begin.Goals as goal

pub overflow_sub-self : goal.overflow_sub-self
overflow_sub-self c = grind (arith, busy_within c.self.inside.slots.items c.args.place)

pub invariant_of-self : goal.invariant_of-self
invariant_of-self c =
    let slots = c.self.inside.slots.items in
    grind (arith, busy_within slots c.args.place, busy_changed slots c.args.place (Some c.args.step))
