use Rattle.std.proofs.Common.{ℕ, get_or, refl, sym, ◌∙◌}
use Rattle.std.proofs.lemmas.List.{get_or_default}
use Rattle.apply_resolve.proofs.Unreachable.{no_entry_left, no_objects, not_here, unreachable_here}
use Rattle.apply_resolve.proofs.reachability.first_unreachable.Goals as goal

pub loop-number-init : goal.loop-number-init
loop-number-init c = (no_objects c.args.script.now c.args.changes c.in_ok-states.states c.requires.changes c.in_ok-states.ensures, refl)

pub is_unreachable-requires-clause-settled : goal.is_unreachable-requires-clause-settled
is_unreachable-requires-clause-settled c = c.loop-number.invariant.0

pub returns-then-branch : goal.returns-then-branch
returns-then-branch c =
    let entries = c.args.entries.now in
    let n = c.loop-number.number in
    let entry : ℕ × ℕ = get_or entries n (0, 0) in
    sym (unreachable_here c.args.script.now entries n entry c.loop-number-test.true (get_or_default entries n (0, 0) entry c.loop-number-test.true) (sym c.in_ok-is_unreachable.ensures.answer ∙ c.if-branch.true)) ∙ c.loop-number.invariant.1

pub loop-number-preserved : goal.loop-number-preserved
loop-number-preserved c =
    let entries = c.args.entries.now in
    let n = c.loop-number.number in
    let entry : ℕ × ℕ = get_or entries n (0, 0) in (
      c.in_ok-is_unreachable.ensures.settled,
      sym (not_here c.args.script.now entries n entry c.loop-number-test.true (get_or_default entries n (0, 0) entry c.loop-number-test.true) (sym c.in_ok-is_unreachable.ensures.answer ∙ c.if-branch.false)) ∙ c.loop-number.invariant.1,
    )

pub returns : goal.returns
returns c = sym (no_entry_left c.args.script.now c.args.entries.now c.loop-number.number c.loop-number-test.false) ∙ c.loop-number.invariant.1
