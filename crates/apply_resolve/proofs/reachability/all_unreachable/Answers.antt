use Rattle.std.proofs.Common.{refl, sym, ◌∙◌}
use Rattle.apply_resolve.proofs.Unreachable.{all_listed, no_objects}
use Rattle.apply_resolve.proofs.reachability.all_unreachable.Goals as goal

pub loop-number-init : goal.loop-number-init
loop-number-init c = (no_objects c.args.script.now c.args.changes c.in_ok-states.states c.requires.changes c.in_ok-states.ensures, rw c.new-unreachable.ensures.items refl)

pub is_unreachable-requires-clause-settled : goal.is_unreachable-requires-clause-settled
is_unreachable-requires-clause-settled c = c.loop-number.invariant.0

pub returns : goal.returns
returns c = sym (all_listed c.args.script.now c.args.entries.now c.loop-number.unreachable.items c.loop-number.number c.loop-number-test.false) ∙ c.loop-number.invariant.1
