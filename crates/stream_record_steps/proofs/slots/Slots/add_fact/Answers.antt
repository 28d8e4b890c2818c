use Rattle.stream_record_steps.proofs.Busy.{busy_whatever}
use Rattle.stream_record_steps.proofs.slots.Slots.add_fact.Goals as goal

pub invariant_of-self : goal.invariant_of-self
invariant_of-self c =
    busy_whatever c.add_fact.result c.self.inside.slots.items c.add_fact.new.slots.items c.args.place c.args.fact c.self.inside.busy
    c.self.invariant c.add_fact.ensures.ok c.add_fact.ensures.err
