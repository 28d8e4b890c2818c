use Rattle.std.proofs.Common.{ap, length, refl, sym, ◌∙◌}
use Rattle.apply_plan.proofs.Scripts.Read.{long, made_entries, refused_entries}
use Rattle.apply_plan.proofs.Scripts.WholeList.{stated_in_range, stated_placed}
use Rattle.apply_plan.proofs.script.entries.Entries.script.Goals as goal

pub returns-in-Some : goal.returns-in-Some
returns-in-Some c = λ ds holds memory. refused_entries c.args.self ds c.in-Some.fault holds c.in-Some.is memory

pub new-script-requires : goal.new-script-requires
new-script-requires c =
    let self = c.args.self in
    let holds = c.requires.1 in
    stated_in_range self.plan.now.changes self.outcomes.items self.waits (length self.step_counts.items) holds.made holds.outcomes

pub first_unreachable-requires-clause-changes : goal.first_unreachable-requires-clause-changes
first_unreachable-requires-clause-changes c = c.len.ensures.len ∙ sym (ap length c.new-script.ensures ∙ long c.args.self c.requires.0 c.requires.1)

pub first_unreachable-requires-clause-placed : goal.first_unreachable-requires-clause-placed
first_unreachable-requires-clause-placed c =
    let self = c.args.self in
    let holds = c.requires.1 in
    rw c.new-script.ensures (stated_placed self.plan.now.changes self.outcomes.items self.waits (length self.step_counts.items) holds.made holds.outcomes)

pub first_unreachable-requires-clause-within : goal.first_unreachable-requires-clause-within
first_unreachable-requires-clause-within c =
    rw (c.deref.ensures.value, c.new-script.ensures, long c.args.self c.requires.0 c.requires.1) c.requires.1.step_counts.within

pub returns-in-Some-2 : goal.returns-in-Some-2
returns-in-Some-2 c = λ ds holds memory.
    made_entries c.args.self ds c.in_ok-number.field-0 holds c.in_default.is (rw (c.deref.ensures.value, c.new-script.ensures) at c.in_ok-number.ensures) ∙ rw c.in-Some-2.is refl

pub returns : goal.returns
returns c = λ ds holds.
    made_entries c.args.self ds c.in_ok-number.field-0 holds c.in_default.is (rw (c.deref.ensures.value, c.new-script.ensures) at c.in_ok-number.ensures) ∙ rw (c.in-None.is, c.new-script.ensures) refl
