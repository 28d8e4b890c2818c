use Rattle.std.proofs.Common.{ap, length, sym, ◌∙◌}
use Rattle.apply_plan.proofs.Scripts.Read.{long, made_beginning, refused_beginning}
use Rattle.apply_plan.proofs.Scripts.WholeList.{stated_in_range, stated_placed}
use Rattle.apply_plan.proofs.script.entries.Entries.never_beginning.Goals as goal

pub returns-in-Some : goal.returns-in-Some
returns-in-Some c = λ ds holds memory. refused_beginning c.args.self ds c.in-Some.fault holds c.in-Some.is memory

pub new-script-requires : goal.new-script-requires
new-script-requires c =
    let self = c.args.self in
    let holds = c.requires.1 in
    stated_in_range self.plan.now.changes self.outcomes.items self.waits (length self.step_counts.items) holds.made holds.outcomes

pub all_unreachable-requires-clause-changes : goal.all_unreachable-requires-clause-changes
all_unreachable-requires-clause-changes c = c.len.ensures.len ∙ sym (ap length c.new-script.ensures ∙ long c.args.self c.requires.0 c.requires.1)

pub all_unreachable-requires-clause-placed : goal.all_unreachable-requires-clause-placed
all_unreachable-requires-clause-placed c =
    let self = c.args.self in
    let holds = c.requires.1 in
    rw c.new-script.ensures (stated_placed self.plan.now.changes self.outcomes.items self.waits (length self.step_counts.items) holds.made holds.outcomes)

pub all_unreachable-requires-clause-within : goal.all_unreachable-requires-clause-within
all_unreachable-requires-clause-within c =
    rw (c.deref.ensures.value, c.new-script.ensures, long c.args.self c.requires.0 c.requires.1) c.requires.1.step_counts.within

pub returns : goal.returns
returns c = λ ds holds.
    made_beginning c.args.self ds c.in_ok-all_unreachable.field-0.items holds c.in_default.is (rw (c.deref.ensures.value, c.new-script.ensures) at c.in_ok-all_unreachable.ensures)
